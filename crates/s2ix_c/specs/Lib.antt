pub mod Calls
pub mod Cells
pub mod CellUnions
pub mod Difference
