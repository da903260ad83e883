-- Words, lines and numerals of a text.
pub mod Lines
pub mod Numerals
pub mod Commas
