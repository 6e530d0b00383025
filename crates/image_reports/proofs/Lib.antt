pub mod Appending
pub mod Pending
pub mod Walking
pub mod Counting
pub mod Pairs
