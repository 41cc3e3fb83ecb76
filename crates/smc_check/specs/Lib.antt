-- What the check pass goes by.
pub mod Heads
pub mod Tables
pub mod Checking
pub mod Going
pub mod Tallying
