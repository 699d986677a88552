pub mod RecordRight
pub mod Own
pub mod Room
