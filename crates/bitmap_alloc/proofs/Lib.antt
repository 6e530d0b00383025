pub mod Vocabulary
pub mod First
pub mod FirstClear
pub mod HasOnes
pub mod OneBit
pub mod Runs
