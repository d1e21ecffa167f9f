pub mod Codes
pub mod Contents
pub mod Forms
pub mod Arenas
pub mod Views
