mod Cases
mod Quadrants
pub mod Squares
mod LevelTables
mod Groups
mod Woven
pub mod Grid
mod Beside
pub mod Sides
pub mod Shared
pub mod OverSides
mod Loop
mod Nesting
mod Leaves
mod Turns
mod Tiles
mod Perimeter
mod Round
pub mod Gathering
pub mod Sorting
mod Distinct
