-- Intervals of versions.
pub mod Apart
pub mod Interval
pub mod IntervalText
pub mod StartOrder
