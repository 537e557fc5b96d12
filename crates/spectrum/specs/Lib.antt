pub mod Difference
pub mod Elements
pub mod Table
pub mod Words
pub mod Transform
pub mod Floats
