pub mod Reachable
pub mod Live
