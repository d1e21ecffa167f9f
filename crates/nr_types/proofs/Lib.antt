pub mod SizeLaws
pub mod Fitting
pub mod Padding
