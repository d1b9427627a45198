pub mod LabelFilters
