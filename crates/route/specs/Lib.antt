pub mod Form
pub mod Legs
pub mod Entry
