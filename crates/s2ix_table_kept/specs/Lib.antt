pub mod Faces
pub mod Reading
