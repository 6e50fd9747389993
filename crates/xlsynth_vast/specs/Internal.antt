pub mod Reductions
pub mod RegisterSteps
pub mod TreeCode
