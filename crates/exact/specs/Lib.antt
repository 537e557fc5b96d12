pub mod Power
pub mod Polynomial
pub mod Series
pub mod Circle
pub mod Exponential
