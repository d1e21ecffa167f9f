pub mod Descs
pub mod Starts
pub mod Filled
pub mod Lasts
pub mod Renamed
pub mod OneEnd
pub mod Texts
