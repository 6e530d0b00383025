pub mod Vocabulary
pub mod Asked
pub mod Faults
pub mod Runs
pub mod Started
pub mod Told
pub mod Worked
