pub mod Entry
pub mod Shams
