pub mod Leads
pub mod Zeros
pub mod Counting
pub mod Filling
pub mod Ways
pub mod Tallies
pub mod Behind
