pub mod Path
pub mod Steps
pub mod Ready
pub mod Louder
