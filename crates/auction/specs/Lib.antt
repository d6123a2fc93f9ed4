pub mod Limits
pub mod Markets
pub mod Bids
pub mod Changes
pub mod Events
pub mod Runs
pub mod Laws
pub mod Figures
