pub mod Rfc3629
pub mod Reading
pub mod Meaning
pub mod Pieces
pub mod Wide
