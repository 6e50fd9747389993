mod Cuts
pub mod Lexemes
pub mod Fronts
pub mod Places
pub mod LexemePlaces
mod Words
mod WordFronts
mod Literals
mod BasedLiterals
mod Strings
mod Signs
mod Tables
mod Keywords
