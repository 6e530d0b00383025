pub mod Vocabulary
pub mod Bytes
pub mod First
pub mod FreeingBlocks
pub mod Laws
pub mod Programs
pub mod Taking
