pub mod Exp2
pub mod Exp
pub mod Base
pub mod Raised
pub mod Value
pub mod Fixed
pub mod Bases
