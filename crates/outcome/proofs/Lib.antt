pub mod Tables
pub mod OneAnswer
