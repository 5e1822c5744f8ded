-- The definitions that contracts cite: the head of each file says what it defines.
pub mod Errors
pub mod Flags
