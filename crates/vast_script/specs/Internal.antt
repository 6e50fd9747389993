pub mod Outcome
pub mod Owned
pub mod Arguments
pub mod Operators
pub mod Modules
