pub mod Kernel
pub mod Phase
pub mod Wave
pub mod Promise
