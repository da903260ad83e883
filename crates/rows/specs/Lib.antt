-- Definitions on rows of annotations.
pub mod Rows
pub mod Coarsenings
