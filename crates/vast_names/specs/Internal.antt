pub mod Hash
pub mod Texts
pub mod Index
pub mod Table
pub mod Map
pub mod Words
