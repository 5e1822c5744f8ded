-- The lemmas about the NUL after text, and about the message of an invalid character.
pub mod CharacterMessage
pub mod NulTerminator
