-- Proof of the open goal `returns`: the clauses of the contract hold at the return. `c` has the facts that are known
-- there: `c.args` are the arguments; `c.F.ensures` is what the call of F ensures; `c.F.result` is its result.
use Rattle.std.proofs.Common.{◌∙◌, ℕ, List, refl, arith}
use Rattle.std.specs.Char.{encode_utf8}
use Rattle.std.specs.Fmt.{digits}
use Rattle.const_hex_c.proofs.lemmas.CharacterMessage.{whole_message}
use Rattle.const_hex_c.proofs.callers.message_of_character.Goals as goal

pub returns : goal.returns
unfolding encode_utf8 digits
returns c =
    let m = c.const_hex_error_message in
    let whole = λ (t : List ℕ). whole_message m.new.message c.args.buffer.now t m.result c.from.result c.args.index in
    record {
      letter = λ b i. whole _ 122 0 m.ensures.count m.ensures.text (c.from.ensures ∙ b) i refl (omega arith);
      quote = λ b i. whole _ 39 5 m.ensures.count m.ensures.text (c.from.ensures ∙ b) i refl (omega arith);
      escape = λ b i. whole _ 27 42 m.ensures.count m.ensures.text (c.from.ensures ∙ b) i refl (omega arith);
      accent = λ b i. whole _ 233 100 m.ensures.count m.ensures.text (c.from.ensures ∙ b) i refl (omega arith);
    }
