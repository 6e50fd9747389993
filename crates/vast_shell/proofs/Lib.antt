pub mod Given
pub mod Streams
