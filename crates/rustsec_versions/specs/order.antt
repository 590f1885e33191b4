-- Which versions are valid, their order, and the version least above another one.
pub mod Precedence
pub mod Successor
