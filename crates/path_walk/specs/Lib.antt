pub mod Vocabulary
pub mod Asks
pub mod Elements
pub mod Names
pub mod Walks
