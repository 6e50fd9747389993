pub mod Replied
pub mod Sessions
pub mod PackedSessions
pub mod MadeSteps
pub mod EndedLines
pub mod Skipped
pub mod Dialects
