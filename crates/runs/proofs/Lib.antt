pub mod Holding
pub mod Decoding
pub mod Stretching
pub mod Joining
pub mod Flipping
pub mod Placing
