pub mod Value
pub mod Map
pub mod Knee
pub mod Segment
pub mod Words
pub mod Fitted
