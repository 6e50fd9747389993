pub mod Linted
pub mod Replies
pub mod Warnings
