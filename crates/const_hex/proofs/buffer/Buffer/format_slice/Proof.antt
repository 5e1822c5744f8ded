-- `format_slice` returns the text that `write_text` borrows: see `lemmas/Walks.antt`.
--
-- `𝓤` is the resource algebra of the separation logic `𝓛`, `𝓜` is the memory model, and `𝓡` is the running program.
-- `wired` says that the program has the code of the function and of what it calls. `n`, `p` and `len` are N, PREFIX
-- and LEN, and `fits_..` says that each is a number of its type.
use Rattle.std.specs.Prelude.{false}
use denote.Param.{number}
use Rattle.const_hex.proofs.lemmas.Walks.LentText.{slice_input, numbers, passes_on}
use Rattle.const_hex.specs.contracts.buffer.Buffer.write_text as fills
use Rattle.const_hex.proofs.buffer.Buffer.format_slice.Statement.{statement}
use Rattle.const_hex.proofs.buffer.Buffer.format_slice.Code as code
use Rattle.const_hex.proofs.buffer.Buffer.write_text.Met as filled

pub format_slice_spec : {M : Type 1} → statement M
format_slice_spec 𝓤 𝓛 𝓜 𝓡 wired n p len fits_n fits_p fits_len =
    passes_on n p len slice_input false 𝓤 𝓛 𝓜 𝓡
    (fills.clauses (number n) (number p) (number len) 𝓛 𝓜.mem 𝓡.returns) _ _
    (code.unfolded 𝓤 𝓛.H 𝓜 𝓡 wired (numbers n p len))
    (filled.met 𝓤 𝓛 𝓜 𝓡 (code.calls-const_hex::buffer::Buffer::write_text 𝓡.env wired) n p len fits_n fits_p fits_len)
