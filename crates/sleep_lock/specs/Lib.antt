pub mod SleepLock
pub mod Lending
pub mod Row
pub mod LendingRow
