pub mod Numbers
pub mod Lines
pub mod Faults
pub mod Checks
