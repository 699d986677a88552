pub mod Form
pub mod Records
pub mod Entry
pub mod Runs
