pub mod Answers
pub mod Claims
pub mod Join
pub mod Parts
