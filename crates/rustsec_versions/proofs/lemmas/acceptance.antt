-- Which lists are accepted, and how intervals are merged.
pub mod Admission
pub mod Clashes
pub mod Clear
pub mod Contraction
pub mod FirstClash
pub mod MergedFit
pub mod Neighbours
pub mod OneMerge
pub mod SweepLoop
pub mod Swept
