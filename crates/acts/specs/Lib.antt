pub mod TaskActs
