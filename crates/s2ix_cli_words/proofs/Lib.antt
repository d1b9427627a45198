mod PlainFields
mod Trees
mod Asked
mod Matched
mod Plain
pub mod FieldLaws
pub mod FieldStart
pub mod ScriptNumbers
pub mod TokenFields
