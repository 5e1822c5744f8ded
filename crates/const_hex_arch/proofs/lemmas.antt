-- The lemmas: the head of each file says what they are about.
pub mod Blocks
pub mod Digits
pub mod FirstInvalid
pub mod LaneText
pub mod LaneValues
pub mod Runs
pub mod Standard
pub mod Streams
pub mod Texts
pub mod Walks
