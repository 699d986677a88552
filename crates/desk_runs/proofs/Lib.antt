pub mod Seen
pub mod DemandThreeByDesk
pub mod LogKeeps
pub mod Logged
pub mod Eleven
