-- Worked examples over the definitions.
pub mod Showing
pub mod Examples
pub mod ZeroItem
