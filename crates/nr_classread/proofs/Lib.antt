pub mod Exits
pub mod Pools
pub mod Attributes
pub mod Files
pub mod Bounds
pub mod Classes
