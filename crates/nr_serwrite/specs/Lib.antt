pub mod TooLong
pub mod Texts
pub mod Working
