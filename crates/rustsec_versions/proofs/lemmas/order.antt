-- Laws of the order of versions.
pub mod LeastAbove
pub mod PrecedenceLaws
pub mod Rising
