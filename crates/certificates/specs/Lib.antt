pub mod Certificates
pub mod Marks
