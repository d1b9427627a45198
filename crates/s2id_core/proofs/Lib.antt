pub mod Powers
pub mod Zeros
pub mod Places
pub mod Numbers
pub mod Levels
pub mod Bits
pub mod Spans
pub mod Nested
mod Next
pub mod Ancestry
mod PathTexts
pub mod Digits
pub mod Printing
pub mod Cells
mod Reading
pub mod Canonical
pub mod Spelled
pub mod Sorted
pub mod Lists
pub mod BinaryDigits
