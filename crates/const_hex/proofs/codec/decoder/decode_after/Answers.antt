-- Proofs of open goals, named after their places: `returns` is a return; `then-F` is the `then` branch of the `if` that
-- tests F; `else-F` is its `else` branch; `clause-X` is the clause X of the contract. `c` has the facts that are known
-- there: `c.args` are the arguments; `c.F.ensures` is what the call of F ensures; `c.F.result` is its result; `c.F.new`
-- is what it has changed; `F-x` is a call whose result is named x; `c.if-F` is the test of F. `g` has the type
-- parameters and their traits' members.
use Rattle.std.proofs.Common.{◌≡◌, ◌*◌, suc, [], ◌∷◌, refl, arith, get_or, length, take, drop}
use Rattle.std.proofs.lemmas.List.{drop_more, take_rest}
use Rattle.const_hex_arch.proofs.lemmas.Texts.{Spells-append}
use Rattle.const_hex.proofs.lemmas.Decoding.{Partial-longer, rest_rejected, partial_pairs}
use Rattle.const_hex.proofs.codec.decoder.decode_after.Goals as goal

pub returns-then-decode_body-clause-spells : goal.returns-then-decode_body-clause-spells
returns-then-decode_body-clause-spells g c = λ h.
    let digits = c.args.digits.now in
    let rest = drop 1 digits in
    let m = length c.split_at_mut-first.result.1.now in
    let twice : 2 * length c.args.output.now ≡ suc (suc (2 * m)) =
    omega (arith, c.requires, c.split_at_mut-first.ensures.back_len) in
    rw (drop_more digits 0 0 (omega arith), twice)
    (Spells-append (c.args.high ∷ get_or digits 0 0 ∷ []) _ (take (2 * m) rest) _ (c.if-decode_body.ensures.spells refl)
    (rw (take_rest digits 1) at (c.decode_pairs_and_last.ensures.spells h)))

pub returns-then-decode_body-clause-invalid : goal.returns-then-decode_body-clause-invalid
returns-then-decode_body-clause-invalid g c = λ h.
    let digits = c.args.digits.now in
    let rest = drop 1 digits in
    rw (drop_more digits 0 0 (omega arith))
    (rest_rejected (c.args.high ∷ get_or digits 0 0 ∷ []) rest c.args.output.now _ _ 1 (omega arith)
    (c.if-decode_body.ensures.spells refl) (omega (arith, c.requires))
    (rw (c.split_at_mut-first.ensures.back, take_rest digits 1) at (c.decode_pairs_and_last.ensures.invalid h)))

pub returns-else-decode_body-clause-invalid : goal.returns-else-decode_body-clause-invalid
returns-else-decode_body-clause-invalid g c = λ h.
    let digits = c.args.digits.now in
    let pair = rw c.split_at_mut-first.ensures.front at (c.if-decode_body.ensures.invalid refl) in
    rw (c.split_at_mut-first.ensures.back, drop_more digits 0 0 (omega arith))
    (Partial-longer _ (c.args.high ∷ get_or digits 0 0 ∷ []) _ (drop 1 digits)
    (partial_pairs c.args.output.now _ c.decode_body.new.output 1 (omega (arith, c.requires)) refl pair))
