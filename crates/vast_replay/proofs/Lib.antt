pub mod Inputs
pub mod Sessions
