pub mod Stores
pub mod Reading
