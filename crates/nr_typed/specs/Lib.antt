pub mod Fits
pub mod Standing
pub mod Usable
pub mod Example
