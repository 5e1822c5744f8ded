-- The definitions that contracts cite: the head of each file says what it defines.
pub mod Lanes
pub mod Laws
pub mod Outputs
pub mod Sinks
pub mod Texts
pub use Lanes.*
pub use Laws.*
pub use Outputs.*
pub use Sinks.*
unfoldable pub use Texts.*
