pub mod SearchLaws
pub mod Laws
pub mod Filled
