pub mod Means
mod Writes
mod Reading
mod Seconds
mod Turns
mod Moved
mod Dones
mod Trims
mod Cuts
