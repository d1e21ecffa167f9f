pub mod Walks
pub mod Ranges
pub mod Room
pub mod Found
pub mod Places
pub mod Members
pub mod Classes
