pub mod WordsBack
pub mod Plain
pub mod FiniteWord
pub mod Written
pub mod Standing
pub mod OneAnswer
