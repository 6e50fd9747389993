pub mod Values
pub mod Items
pub mod Views
pub mod Steps
pub mod Fused
pub mod Ran
