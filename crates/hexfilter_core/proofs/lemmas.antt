-- The lemmas: the head of each file says what they are about.
pub mod Arguments
pub mod Runs
pub mod Groups
pub mod Mirror
pub mod Locations
pub mod Texts
