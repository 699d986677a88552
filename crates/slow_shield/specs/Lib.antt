pub mod Back
pub mod Entry
pub mod Stepping
pub mod Inner
