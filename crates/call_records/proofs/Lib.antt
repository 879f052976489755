pub mod Lengths
pub mod TableLaws
pub mod Refusals
pub mod Sending
pub mod OneEncoding
pub mod ReplyPrefixes
