pub mod Off
