pub mod Equal
pub mod Reverted
