pub mod Versions
pub mod Dumps
pub mod Journals
pub mod Gathered
pub mod Placed
pub mod Apart
pub mod Texts
