pub mod Tree
pub mod Read
pub mod Walk
pub mod Entry
