mod JsonLaws
pub mod Words
pub mod PackedWords
pub mod Acted
pub mod Quoted
pub mod LineParts
pub mod Entered
pub mod CallRows
pub mod CallFronts
