pub mod Apart
pub mod CountLaws
pub mod Firsts
pub mod Once
pub mod Placed
pub mod Said
