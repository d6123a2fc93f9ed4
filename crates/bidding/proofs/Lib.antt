pub mod Deep
pub mod Reduced
pub mod Finds
pub mod Composed
