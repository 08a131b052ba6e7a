pub mod Known
pub mod CutLines
pub mod Buffered
pub mod Responding
pub mod Counting
pub mod Answering
pub mod Streaming
