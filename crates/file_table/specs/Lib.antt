pub mod Vocabulary
pub mod LockingFiles
