pub mod Check
pub mod ReadBack
pub mod Words
