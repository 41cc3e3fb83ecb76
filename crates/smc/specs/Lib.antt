-- What the reader's parts go by among themselves. A user of `read_chunk` needs none of it.
pub mod Tables
pub mod Factors
pub mod Runs
pub mod Storing
pub mod Shows
pub mod Painting
