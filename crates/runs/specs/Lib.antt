pub mod Bits
pub mod Runs
pub mod Dressing
pub mod Sounds
pub mod Laws
