-- Laws of the definitions, and what the functions' proofs go by.
pub mod Splits
pub mod Heading
pub mod Gathering
pub mod Segments
pub mod RowHeads
pub mod Progress
pub mod Overlays
pub mod Laying
pub mod Clipping
pub mod Segmentwise
pub mod Rowwise
pub mod Positions
pub mod Answering
pub mod Numbers
