pub mod Halves
pub mod Counts
pub mod InPlace
pub mod Initialising
pub mod Searching
pub mod Listing
pub mod SiteOf
