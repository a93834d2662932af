pub mod Answers
pub mod Figures
pub mod Tables
pub mod TrivialCommutation
