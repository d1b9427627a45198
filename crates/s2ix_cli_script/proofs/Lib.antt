mod CellFields
pub mod WantedFields
mod Comments
mod Equal
mod WantedLines
