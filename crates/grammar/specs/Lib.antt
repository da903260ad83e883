-- Names of kinds and maps, and which map starts at which kind.
pub mod Keywords
pub mod Starts
