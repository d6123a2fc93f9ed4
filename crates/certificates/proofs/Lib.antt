pub mod Accepts
pub mod Seats
pub mod Taken
pub mod Totals
