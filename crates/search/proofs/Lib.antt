pub mod Among
pub mod Search
