pub mod OneTurn
pub mod Said
pub mod Carried
pub mod VerdictCall
pub mod Stepping
pub mod VerdictFigures
pub mod OneAnswer
