pub mod Square
pub mod Point
pub mod Edge
pub mod Grid
pub mod Neighbor
pub mod Border
pub mod FourLevels
pub mod Loops
