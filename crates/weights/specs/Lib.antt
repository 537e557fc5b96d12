pub mod Lists
pub mod Value
pub mod Softmax
pub mod Weight
pub mod Asked
