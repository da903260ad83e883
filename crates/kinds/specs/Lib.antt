-- The definitions of annotation kinds, in the order in which to read them.
pub mod Semiring
pub mod Flags
pub mod Upto
pub mod Clearances
pub mod Conditions
pub mod Pairs
pub mod Codes
pub mod Wording
-- Proofs that the five kinds are lawful; they stand here since an implementation of a kind cites them.
pub mod FlagLaws
pub mod NumberLaws
pub mod ClearanceLaws
pub mod ConditionLaws
pub mod PairLaws
