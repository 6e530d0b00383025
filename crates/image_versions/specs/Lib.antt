pub mod Shared
pub mod Versions
pub mod Laws
