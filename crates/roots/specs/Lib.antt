pub mod Value
pub mod Sqrt
pub mod Rsqrt
