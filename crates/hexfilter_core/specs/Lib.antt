-- The definitions that contracts cite: the head of each file says what it defines.
pub mod Dumps
pub mod Options
pub mod Runs
pub mod Stages
