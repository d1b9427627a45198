pub mod Back
pub mod Forth
pub mod Inverted
pub mod Last
pub mod CountsSet
