pub mod Readings
pub mod ReadBack
pub mod QueryBack
pub mod Standing
pub mod Exact
pub mod DocumentExact
pub mod Scaled
