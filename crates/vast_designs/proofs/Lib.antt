pub mod CallLists
pub mod DesignTexts
pub mod RegistersSteps
pub mod RegistersText
