-- The words that name a command, and the options of `audit`.
pub mod Options
pub mod Words
