pub mod Limits
pub mod Tables
pub mod Nets
pub mod Plans
pub mod Sums
pub mod Summaries
pub mod Seats
