-- What a reader must believe, in paper 01's order: sizes, pictures and maps; a chunk; the writer's chunk; the feed; calls; the listing; the examples.
-- `Octets` is what the reader computes, and no part of what a chunk means.
pub mod Basics
pub mod Answers
pub mod Sizes
pub mod Pictures
pub mod Maps
pub mod Flags
pub mod Octets
pub mod Chunks
pub mod Boards
pub mod Writing
pub mod Feeds
pub mod Calls
pub mod Listing
pub mod Rows
pub mod Examples
