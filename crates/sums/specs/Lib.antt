pub mod Sum
pub mod Dot
pub mod Value
