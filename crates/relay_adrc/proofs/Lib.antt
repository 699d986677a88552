pub mod Mended
pub mod Ticks
pub mod Lowpass
pub mod Shut
pub mod FilterLimits
pub mod Three
pub mod OneAnswer
