pub mod Bare
pub mod Output
pub mod Statements
pub mod Words
pub mod Emits
pub mod Pieces
pub mod Bodies
