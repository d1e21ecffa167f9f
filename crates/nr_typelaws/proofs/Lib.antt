pub mod Passing
pub mod Sound
pub mod Complete
pub mod Decides
pub mod Suited
pub mod Never
pub mod Failing
pub mod ByHandFaults
