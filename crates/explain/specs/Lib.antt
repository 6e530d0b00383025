pub mod Vocabulary
pub mod Climbs
pub mod Keeps
pub mod Explained
pub mod OneRun
pub mod Numbers
pub mod Played
pub mod Telling
