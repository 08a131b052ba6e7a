pub mod Costs
pub mod OutputBytes
pub mod Replies
pub mod ReplyLaws
pub mod Responses
