-- Lemmas on lines.
pub mod Steps
pub mod PackedSteps
