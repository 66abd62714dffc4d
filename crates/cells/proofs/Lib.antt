pub mod Laid
pub mod Refused
pub mod Agreeing
pub mod Identical
