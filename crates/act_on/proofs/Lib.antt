pub mod Settles
