pub mod Lemmas
pub mod Vocabulary
mod InHand
