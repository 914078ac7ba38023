pub mod Digits
pub mod Lacks
pub mod RoundTrip
pub mod TooLong
pub mod OneLine
pub mod Examples
