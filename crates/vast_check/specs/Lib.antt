pub mod Check
pub mod Ends
pub mod Internal
