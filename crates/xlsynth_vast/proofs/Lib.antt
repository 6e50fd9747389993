pub mod Selectors
pub mod Widths
pub mod Dimensions
pub mod Taken
pub mod Tests
pub mod WrongEvents
pub mod Hoisted
pub mod Connected
pub mod Inspected
pub mod ModuleNames
pub mod Reduced
pub mod ArrayReduced
pub mod RegisterParts
pub mod RegisterBlocks
pub mod RegisterBranches
pub mod RegisterMembers
pub mod RegisterSteps
pub mod RegisterValues
pub mod Unseen
pub mod UnseenNodes
pub mod Kept
pub mod KeptWords
mod KeptRegisters
mod KeptReductions
mod KeptLists
pub mod Callers
mod Presence
