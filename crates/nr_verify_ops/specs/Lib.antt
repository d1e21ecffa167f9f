pub mod Answers
pub mod Sites
pub mod Halves
pub mod Arrays
pub mod Closed
pub mod InPlace
