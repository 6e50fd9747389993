pub mod Notes
pub mod Lint
pub mod Laws
pub mod Internal
