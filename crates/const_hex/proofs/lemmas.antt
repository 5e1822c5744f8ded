-- The lemmas about the iterator `BytesToHexChars` (`CharIterator`), the streaming decoder (`Decoding`), messages
-- (`Printing`), the results of decoding (`Reading`), round trips, the search for the first invalid character
-- (`Searching`), symbolic execution (`Walks`), and sinks over a `Write`.
pub mod CharIterator
pub mod Decoding
pub mod Printing
pub mod Reading
pub mod RoundTrip
pub mod Searching
pub mod Walks
pub mod WriteSinks
