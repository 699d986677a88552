pub mod Profile
pub mod SetUp
pub mod Tick
pub mod Inner
pub mod Figures
pub mod Worked
