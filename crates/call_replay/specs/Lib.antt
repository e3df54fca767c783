pub mod ReplyLines
pub mod CallLines
pub mod Asked
pub mod Replays
pub mod Replaying
