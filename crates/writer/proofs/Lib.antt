pub mod Counting
pub mod Writing
pub mod Spelling
pub mod Chunks
pub mod Marks
