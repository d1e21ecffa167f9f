pub mod Sizes
pub mod Files
pub mod Handlers
pub mod Classes
pub mod MapLaws
pub mod Bodies
pub mod Params
