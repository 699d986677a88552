pub mod Filters
pub mod Entry
pub mod Runs
pub mod Inner
