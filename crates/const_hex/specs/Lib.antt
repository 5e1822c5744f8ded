-- The definitions that contracts cite: the head of each file says what it defines.
pub mod Buffers
pub mod Decoding
pub mod Messages
pub mod Prelude
pub mod Results
pub mod TypeLaws
pub mod Types
pub mod Writers
pub use Rattle.const_hex_arch.specs.Lanes
pub use Rattle.const_hex_arch.specs.Laws
pub use Rattle.const_hex_arch.specs.Outputs
pub use Rattle.const_hex_arch.specs.Sinks
pub use Rattle.const_hex_arch.specs.Texts
