pub mod Vectors
pub mod Attitude
pub mod Inner
pub mod Controller
pub mod Set
pub mod Shield
pub mod Lent
