-- What the lines of a paper say.
pub mod Papers
