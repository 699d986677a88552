pub mod Slow
pub mod Loops
pub mod Words
pub mod FlagsCall
pub mod OneAnswer
