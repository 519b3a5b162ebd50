-- Laws on replies.
pub mod Records
pub mod Longest
pub mod Replies
