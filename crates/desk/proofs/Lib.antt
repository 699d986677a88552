pub mod DeskTickLeaves
pub mod Read
pub mod DeskCalls
pub mod Held
pub mod HeadingWritten
pub mod Within
pub mod OneAnswer
