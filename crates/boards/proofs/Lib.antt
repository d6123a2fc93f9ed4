pub mod Sites
pub mod Rising
pub mod Models
pub mod Worked
