pub mod FaceSpans
pub mod Neighbours
pub mod Parts
pub mod Layers
pub mod Layered
pub mod Split
pub mod Made
