pub mod LogForm
pub mod Apart
pub mod Made
pub mod Reading
pub mod Refused
pub mod OneAnswer
