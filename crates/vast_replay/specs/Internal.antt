-- What private contracts and proofs say, and no public one.
pub mod Input
pub mod Sessions
