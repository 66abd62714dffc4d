pub mod Cols
pub mod Laws
pub mod Becoming
