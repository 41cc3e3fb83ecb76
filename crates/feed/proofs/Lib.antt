pub mod Grouping
pub mod Standing
pub mod Walking
pub mod Opening
pub mod Deciding
