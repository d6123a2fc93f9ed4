pub mod Books
pub mod Rules
pub mod Ledgers
pub mod Opening
pub mod Refusals
pub mod Deliveries
pub mod Composing
