pub mod Asked
pub mod ExchangeSteps
pub mod Level
pub mod Shams
pub mod OneAnswer
