pub mod Fields
pub mod Tree
pub mod Help
pub mod Words
pub mod Flushing
pub mod Statuses
pub mod Shown
