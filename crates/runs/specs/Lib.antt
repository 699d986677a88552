pub mod Runs
pub mod DemandThree
pub mod Kept
pub mod Shams
pub mod LostRotor
pub mod Gyro
