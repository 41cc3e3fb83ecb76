-- What the writer's parts go by among themselves. A user of `write_chunk` needs none of it.
pub mod Kept
pub mod Runs
pub mod Changes
pub mod Colours
pub mod Tables
pub mod Flags
pub mod Put
