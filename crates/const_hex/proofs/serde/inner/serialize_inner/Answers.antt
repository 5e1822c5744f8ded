-- Proofs of open goals, named after their places: `returns` is the return at the end; `then-F` is the `then` branch of
-- the `if` that tests F; `clause-X` is the clause X of the contract. `c` has the facts that are known there: `c.args`
-- are the arguments; `c.F.ensures` is what the call of F ensures; `c.F.new` is what it has changed; `c.if-F` is the
-- test of F. `g` has the type parameters and their traits' members. `search` is a proof search.
--
-- Terms of the contracts:
-- - `full_text prefix upper bs`: the text of bs, after `0x` if `prefix` is true
use Rattle.std.proofs.Common.{◌≡◌, ◌<◌, ℕ, Bool, not, nat_eq, List, [], length, min, arith, rules}
use Rattle.std.proofs.lemmas.List.{nil_from_length}
use Rattle.const_hex.specs.Prelude.{full_text, text_length}
use Rattle.const_hex_arch.proofs.lemmas.Streams.{short_stream}
use Rattle.const_hex_arch.proofs.lemmas.Texts.{full_text_size}
use Rattle.const_hex.proofs.serde.inner.serialize_inner.Goals as goal

-- if a saturating length of a text is 0, the text is empty
empty_text : (p u : Bool) (bytes : List ℕ) (n most : ℕ) → n ≡ min (text_length p (length bytes)) most → 0 < most → n ≡ 0
    → full_text p u bytes ≡ []
empty_text p u bytes n most e some none =
    nil_from_length (full_text p u bytes) (omega (arith, full_text_size p u bytes, e, none))

pub returns-then-text_length-eq0-clause-short : goal.returns-then-text_length-eq0-clause-short
returns-then-text_length-eq0-clause-short g c = λ _.
    rw (empty_text _ _ c.args.bytes.now _ _ c.text_length.ensures (omega arith) c.if-text_length-eq0.true)
    c.write_str.ensures.step

pub returns-then-text_length-eq0-clause-reported : goal.returns-then-text_length-eq0-clause-reported
returns-then-text_length-eq0-clause-reported g c =
    rw (empty_text (not (nat_eq g.row.PREFIX 0)) (not (nat_eq g.row.UPPER 0)) c.args.bytes.now _ _ c.text_length.ensures
    (omega arith) c.if-text_length-eq0.true) (search rules)

pub returns-clause-short : goal.returns-clause-short
returns-clause-short g c = λ few.
    let text = full_text (not (nat_eq g.row.PREFIX 0)) (not (nat_eq g.row.UPPER 0)) c.args.bytes.now in
    let size = full_text_size (not (nat_eq g.row.PREFIX 0)) (not (nat_eq g.row.UPPER 0)) c.args.bytes.now in
    short_stream g.S.Sink.step g.S.Sink.has_failed c.args.sink.now text c.write_to.new.sink c.requires
    (omega (arith, size, c.text_length.ensures, c.if-text_length-eq0.false)) (grind (arith, few, size)) (search rules)
