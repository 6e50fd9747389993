-- What is printed of an input that is one list.
pub mod Ends
pub mod Input
pub mod Internal
pub mod Sessions
