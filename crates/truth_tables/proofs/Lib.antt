pub mod MonotoneLaws
pub mod Bitwise
pub mod Closing
pub mod Variables
pub mod Joining
