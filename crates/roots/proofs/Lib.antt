pub mod Least
pub mod Range
pub mod SquareRoot
pub mod ReciprocalRoot
pub mod Unique
