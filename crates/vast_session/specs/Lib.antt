pub mod Helpers
pub mod Names
pub mod Questions
pub mod Session
pub mod PackedCalls
pub mod PackedFronts
pub mod Replies
pub mod Internal
