pub mod Decoded
pub mod AnswerWords
pub mod Fitting
pub mod AnswerFits
pub mod Moved
pub mod Passed
pub mod OneAnswer
