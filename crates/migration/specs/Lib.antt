pub mod Vocabulary
pub mod Nodes
pub mod Image
pub mod Parts
pub mod Kept
pub mod Refusals
pub mod Migrated
pub mod Laws
