pub mod Linted
pub mod Internal
pub mod Replies
pub mod Warnings
