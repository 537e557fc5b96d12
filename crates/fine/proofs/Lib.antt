pub mod Method
pub mod Words
