pub mod Gains
pub mod Axis
pub mod Inner
pub mod Biquad
pub mod Rate
pub mod Filter
