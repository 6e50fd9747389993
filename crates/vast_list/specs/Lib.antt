pub mod Output
pub mod PackedLists
pub mod Built
pub mod JsonLine
pub mod PlainLists
pub mod Origins
pub mod Untitled
pub mod Internal
