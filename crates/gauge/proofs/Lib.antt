pub mod Counted
pub mod Splitting
