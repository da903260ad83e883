-- The meaning of annotated trees, queries, stores and uses, in the order in which to read it.
pub mod Forests
pub mod Normal
pub mod Images
pub mod Evaluation
pub mod Stores
pub mod Uses
pub mod Equality
pub mod Laws
pub mod Labels
