pub mod Check
pub mod Places
