pub mod Unforwarded
