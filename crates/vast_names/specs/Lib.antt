pub mod Map
pub mod Internal
