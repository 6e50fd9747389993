pub mod Lines
pub mod CallRows
pub mod Written
pub mod Actions
