pub mod Methods
pub mod Suits
pub mod Searching
pub mod Within
