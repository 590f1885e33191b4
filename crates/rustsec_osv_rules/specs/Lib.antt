pub mod evaluation
pub mod schema
