pub mod EachFunction
pub mod FirstWord
pub mod Lines
pub mod Patterns
