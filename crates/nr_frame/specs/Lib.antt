pub mod Kinds
pub mod Headers
pub mod Splits
pub mod Reading
pub mod Runs
