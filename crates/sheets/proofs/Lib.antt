pub mod Worked
pub mod Merges
pub mod Grid
pub mod Searches
pub mod Kept
pub mod Chunks
