pub mod Outputs
pub mod Built
pub mod JsonLines
pub mod TextLines
pub mod Mapped
pub mod UntitledLists
pub mod PlainLists
pub mod Numbered
