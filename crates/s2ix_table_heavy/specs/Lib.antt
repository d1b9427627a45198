pub mod Chunks
pub mod ChangedChunk
pub mod HeavyChains
pub mod HeavyTable
