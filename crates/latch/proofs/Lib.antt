pub mod LatchFlies
pub mod OneAnswer
