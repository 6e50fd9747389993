pub mod Failures
pub mod Input
pub mod Outcomes
pub mod Output
