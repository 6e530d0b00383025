pub mod Lemmas
pub mod Vocabulary
mod Lines
mod Numbers
mod Pairs
mod Prompting
mod Saying
mod Scripts
mod Spacing
mod Standing
pub mod Appending
pub mod Reading
pub mod Tailing
