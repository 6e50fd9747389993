pub mod Tests
pub mod Lists
pub mod Values
pub mod Members
