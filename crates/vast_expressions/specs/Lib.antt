pub mod Signs
pub mod Events
pub mod Rows
pub mod Phrases
pub mod Hearing
pub mod Reading
pub mod Internal
