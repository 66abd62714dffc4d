pub mod Cutting
pub mod Making
