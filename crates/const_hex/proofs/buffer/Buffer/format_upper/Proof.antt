-- `format_upper` returns the text that `write_array` borrows: see `lemmas/Walks.antt`.
--
-- `𝓤` is the resource algebra of the separation logic `𝓛`, `𝓜` is the memory model, and `𝓡` is the running program.
-- `wired` says that the program has the code of the function and of what it calls. `n`, `p` and `len` are N, PREFIX
-- and LEN, and `fits_..` says that each is a number of its type.
use Rattle.std.specs.Prelude.{true}
use denote.Param.{number}
use Rattle.const_hex.proofs.lemmas.Walks.LentText.{array_input, numbers, passes_on}
use Rattle.const_hex.specs.contracts.buffer.Buffer.write_array as fills
use Rattle.const_hex.proofs.buffer.Buffer.format_upper.Statement.{statement}
use Rattle.const_hex.proofs.buffer.Buffer.format_upper.Code as code
use Rattle.const_hex.proofs.buffer.Buffer.write_array.Met as filled

pub format_upper_spec : {M : Type 1} → statement M
format_upper_spec 𝓤 𝓛 𝓜 𝓡 wired n p len fits_n fits_p fits_len =
    passes_on n p len (array_input n p len) true 𝓤 𝓛 𝓜 𝓡
    (fills.clauses (number n) (number p) (number len) 𝓛 𝓜.mem 𝓡.returns) _ _
    (code.unfolded 𝓤 𝓛.H 𝓜 𝓡 wired (numbers n p len))
    (filled.met 𝓤 𝓛 𝓜 𝓡 (code.calls-const_hex::buffer::Buffer::write_array 𝓡.env wired) n p len fits_n fits_p fits_len)
