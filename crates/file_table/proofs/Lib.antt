pub mod Lemmas
pub mod HasOnes
