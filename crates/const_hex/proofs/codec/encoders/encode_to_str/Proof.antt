-- `encode_to_str` returns a borrow of the text in the slice, or leaves it unchanged: see `lemmas/Walks.antt`.
--
-- `𝓤` is the resource algebra of the separation logic `𝓛`, `𝓜` is the memory model, and `𝓡` is the running program.
-- `wired` says that the program has the code of the function and of what it calls.
use Rattle.std.specs.Prelude.{false}
use Rattle.const_hex.proofs.lemmas.Walks.EncodedStr.{text_or_error}
use Rattle.const_hex.proofs.codec.encoders.encode_to_str.Statement.{statement}
use Rattle.const_hex.proofs.codec.encoders.encode_to_str.Code as code
use Rattle.const_hex.proofs.codec.encoders.encode_into.Met as fills
use Rattle.const_hex.proofs.codec.encoders.encoded_text.Met as as_text

pub encode_to_str_spec : {M : Type 1} → statement M
encode_to_str_spec 𝓤 𝓛 𝓜 𝓡 wired =
    text_or_error 𝓤 𝓛 𝓜 𝓡 false _ (code.unfolded 𝓤 𝓛.H 𝓜 𝓡 wired)
    (fills.met 𝓤 𝓛 𝓜 𝓡 (code.calls-const_hex::codec::encoders::encode_into 𝓡.env wired))
    (as_text.met 𝓤 𝓛 𝓜 𝓡 (code.calls-const_hex::codec::encoders::encoded_text 𝓡.env wired))
