pub mod Rowwise
pub mod Gridwise
