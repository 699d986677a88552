pub mod RowFour
pub mod NeverRefused
pub mod TickLeaves
pub mod TickSteps
pub mod OneAnswer
