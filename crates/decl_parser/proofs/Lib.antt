pub mod Words
pub mod Stages
