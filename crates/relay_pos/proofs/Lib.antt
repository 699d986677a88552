pub mod BadAngle
pub mod OneAnswer
