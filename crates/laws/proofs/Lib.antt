-- Laws of no module. Assumes nothing.
pub mod Tests
pub mod Determined
pub mod Lent
pub mod Prelude
