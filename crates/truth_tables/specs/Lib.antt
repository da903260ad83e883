-- Truth tables, in the order in which to read them.
pub mod Monotone
pub mod Tables
pub mod Words
