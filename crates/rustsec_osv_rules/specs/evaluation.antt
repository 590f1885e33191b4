pub mod Document
pub mod Event
pub mod Order
pub mod Pairs
pub mod Range
