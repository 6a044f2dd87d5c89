pub mod Replies
pub mod Streams
