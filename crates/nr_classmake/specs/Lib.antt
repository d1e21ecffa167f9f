pub mod Places
pub mod Keys
pub mod Words
pub mod Making
pub mod Items
pub mod Calls
pub mod Classes
