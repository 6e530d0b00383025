pub mod Vocabulary
pub mod Image
pub mod Layout
pub mod Made
pub mod Options
pub mod Refusals
pub mod Stated
pub mod Widths
