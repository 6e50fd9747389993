-- Lemmas on a box as its pointer, and on a struct of a pointer that C keeps.
pub mod Values
pub mod Kept
