pub mod Vocabulary
pub mod Machines
pub mod Places
