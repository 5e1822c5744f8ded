-- `decode_chunk` makes an `Option` of what `decode_flagged` returns: symbolic execution (see `lemmas/Walks.antt`).
use Rattle.const_hex_arch.proofs.lemmas.Walks.{some_or_none}
use Rattle.const_hex_arch.specs.contracts.arch.lanes32.decode_chunk.Key.{name}
use Rattle.const_hex_arch.specs.contracts.arch.lanes32.decode_flagged.Key.{name as decode_flagged}
use Rattle.const_hex_arch.proofs.arch.lanes32.decode_chunk.Statement.{statement}
use Rattle.const_hex_arch.proofs.arch.lanes32.decode_chunk.Code as code
use Rattle.const_hex_arch.proofs.arch.lanes32.decode_flagged.Met.{met}

pub decode_chunk_spec : {M : Type 1} → statement M
decode_chunk_spec 𝓤 𝓛 𝓜 𝓡 wired =
    some_or_none 32 𝓤 𝓛 𝓜 𝓡 name decode_flagged (code.unfolded 𝓤 𝓛.H 𝓜 𝓡 wired)
    (met 𝓤 𝓛 𝓜 𝓡 (code.calls-const_hex_arch::arch::lanes32::decode_flagged 𝓡.env wired))
