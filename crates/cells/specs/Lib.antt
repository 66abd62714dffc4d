pub mod Refusals
pub mod Cleaning
pub mod Words
pub mod Kinds
pub mod Cells
