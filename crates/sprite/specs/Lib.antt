-- What a symbol is: its file, its frames, and painting one; and a table of examples.
pub mod Files
pub mod Frames
pub mod Read
pub mod Held
pub mod Symbols
pub mod Strips
pub mod Examples
