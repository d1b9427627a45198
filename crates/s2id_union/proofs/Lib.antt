pub mod Unique
pub mod Covering
mod Adding
mod Normal
mod Greatest
pub mod Searching
mod Sweeping
mod Sharing
mod Made
pub mod Largest
pub mod NormalForm
mod Forms
mod Joining
mod Counting
pub mod Equal
mod Shortest
mod FewCells
