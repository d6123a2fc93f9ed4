pub mod Entries
pub mod Bids
pub mod Ladders
pub mod Landings
pub mod Views
pub mod Offers
