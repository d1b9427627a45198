pub mod Named
pub mod FaultNames
pub mod Lines
pub mod Meaning
pub mod RefusalNames
