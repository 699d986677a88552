pub mod Gate
pub mod GovernorClock
pub mod Leg
pub mod OneAnswer
