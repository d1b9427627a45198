pub mod Through
mod OfCells
mod OfNone
