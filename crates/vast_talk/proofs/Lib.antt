pub mod Replied
pub mod Warned
