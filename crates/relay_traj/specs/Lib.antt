pub mod Quintic
pub mod Segment
pub mod Governor
