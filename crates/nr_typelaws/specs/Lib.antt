pub mod Faultless
pub mod Frames
pub mod Failing
pub mod ByHand
