pub mod Lemmas
pub mod Vocabulary
pub mod Goings
pub mod HasOnes
pub mod Stored
