pub mod Right
pub mod Verdict
pub mod Series
pub mod Entry
