pub mod LabelFilter
