pub mod Region
pub mod NormalForm
pub mod Covers
pub mod Range
pub mod Operation
pub mod Loops
