-- Trees, queries, refusals and the bytes of both formats, in the order in which to read them.
pub mod Trees
pub mod Queries
pub mod Refusals
pub mod Reading
pub mod Documents
pub mod QueryBytes
pub mod Items
pub mod Writing
pub mod Laws
