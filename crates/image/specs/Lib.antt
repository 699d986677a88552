pub mod Layout
pub mod Parts
pub mod Image
pub mod Inputs
pub mod Passed
pub mod Fits
pub mod Inner
