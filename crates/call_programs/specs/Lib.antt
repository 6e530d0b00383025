pub mod Along
pub mod Wanted
pub mod Changes
pub mod Asks
