pub mod Splits
pub mod Pieces
pub mod Graphemes
pub mod Ascii
pub mod Reading
