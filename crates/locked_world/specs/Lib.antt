pub mod Vocabulary
pub mod HandedBack
pub mod Kept
pub mod Lent
pub mod Stories
pub mod Told
