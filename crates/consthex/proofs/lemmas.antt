-- The lemmas: the head of each file says what they are about.
pub mod Statuses
