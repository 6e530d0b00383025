pub mod Lemmas
pub mod Vocabulary
pub mod Dots
pub mod Shifted
pub mod Writes
