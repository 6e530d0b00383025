pub mod Vocabulary
pub mod ElementLemmas
pub mod Onward
