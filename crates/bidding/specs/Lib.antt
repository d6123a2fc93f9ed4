pub mod Depths
pub mod Searches
