pub mod DesignCalls
pub mod RegistersFile
