-- Definitions for playing papers.
pub mod Items
