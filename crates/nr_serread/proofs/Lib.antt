pub mod Below
pub mod Differing
pub mod Turns
pub mod Taking
pub mod Keeping
pub mod Opening
pub mod Stepping
mod Examples
