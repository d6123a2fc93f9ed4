pub mod Sums
pub mod Scales
pub mod Optimal
pub mod Rows
pub mod Allowed
