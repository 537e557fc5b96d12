pub mod Nearest
pub mod Work
