pub mod Answers
pub mod Laws
pub mod Names
pub mod Reads
pub mod Refusals
pub mod Widest
