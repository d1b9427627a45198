mod Above
pub mod AddUnion
mod Beside
mod DropLabel
pub mod EachRefusal
pub mod Edited
mod Equal
mod Fewest
mod Grow
mod LabelCells
pub mod Lesser
mod Normalise
pub mod Plans
pub mod Refused
mod Relabel
pub mod Removals
pub mod Revert
pub mod Rows
pub mod Sizes
