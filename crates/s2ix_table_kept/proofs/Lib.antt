pub mod ReadBlocks
pub mod Marked
pub mod FaceAround
pub mod OneByOne
pub mod ReadCounts
