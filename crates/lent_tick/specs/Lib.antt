pub mod Unbroken
pub mod Tick
pub mod Steps
pub mod Inner
