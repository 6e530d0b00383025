pub mod Vocabulary
pub mod Places
pub mod Checks
pub mod Reads
pub mod Tables
