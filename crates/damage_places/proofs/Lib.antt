pub mod Climbs
pub mod NumberLemmas
pub mod InodeLemmas
pub mod PlaceLemmas
pub mod RepeatLemmas
pub mod DamageLemmas
