pub mod CategoryRows
pub mod Rows
pub mod Stats
pub mod StatsText
pub mod StatsTree
pub mod Years
