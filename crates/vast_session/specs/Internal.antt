pub mod Session
pub mod PackedCalls
pub mod Replies
