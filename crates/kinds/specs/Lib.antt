pub mod Bitfields
pub mod Colors
pub mod Strips
