pub mod Encoded
pub mod Cuts
pub mod Grammar
pub mod Laws
pub mod Ordered
pub mod Points
pub mod Steps
