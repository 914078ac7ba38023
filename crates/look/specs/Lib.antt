pub mod Ahead
pub mod Slots
