pub mod DesignCalls
pub mod DesignTexts
pub mod Internal
