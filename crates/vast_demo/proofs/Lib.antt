pub mod Checking
pub mod Naming
pub mod ReadingBack
