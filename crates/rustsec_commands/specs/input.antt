-- The input of the commands `affected` and `ranges`: its lines, and what they say.
pub mod Input
pub mod Line
pub mod Views
