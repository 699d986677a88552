pub mod F32
pub mod Sqrt
pub mod Exact
pub mod Steps
