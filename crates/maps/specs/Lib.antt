-- Definitions on maps between kinds.
pub mod Maps
pub mod MapLaws
