-- Proofs of open goals, named after their places: `returns` is the return at the end; `then-F` is the `then` branch of
-- the `if` that tests F. `c` has the facts that are known there: `c.args` are the arguments; `c.F.ensures` is what the
-- call of F ensures; `c.F.result` is its result; `c.F.new` is what it has changed; `F-x` is a call whose result is
-- named x; `c.if-F` is the test of F. `g` has the type parameters and their traits' members. `search` is a proof
-- search.
--
-- Terms of the contracts:
-- - `ChunkResult t bs n r`: the last chunk of t has the result r, after the bytes bs, with space for n more
-- - `HasRead d t bs`: the decoder d has read t without an error, and has written bs for it
use Rattle.std.proofs.Common.{◌++◌, ℕ, List, Err, arith, refl, sym, length, ◌≡◌, ◌∙◌, take, drop, rules, length-take-le, take_at, drop_at}
use Rattle.const_hex.specs.Prelude.{HasRead, InvalidStringLength, ChunkResult}
use Rattle.const_hex_arch.proofs.lemmas.Digits.{digits_append}
use Rattle.const_hex_arch.proofs.lemmas.FirstInvalid.{digits_not_invalid}
use Rattle.const_hex.proofs.lemmas.Decoding.{body_added, first_invalid_in_chunk, body_is_digits, decode_more, decoded_length, partial_pairs}
use Rattle.const_hex.proofs.codec.decoder.Decoder.decode_with.Goals as goal

pub returns-then-count-output : goal.returns-then-count-output
returns-then-count-output g c =
    let next = c.next_digits-pending in
    let outcome : (t bs : List ℕ) → HasRead c.args.self.now t bs
    → ChunkResult (t ++ c.args.chunk.now) bs (length c.args.output.now) (Err InvalidStringLength) =
    λ t bs r.
    let size = decoded_length _ c.args.chunk.now _ _ next.ensures.body next.ensures.pending_valid t bs r _
    c.count_pairs-count.ensures in omega (arith, size) in search (rules, outcome)

pub returns-then-not-decode_next : goal.returns-then-not-decode_next
returns-then-not-decode_next g c =
    let next = c.next_digits-pending in
    let invalid = c.if-not-decode_next.ensures.invalid refl in record {
      ok = search rules;
      outcome = λ t bs r.
          let size = decoded_length _ c.args.chunk.now _ _ next.ensures.body next.ensures.pending_valid t bs r _
          c.count_pairs-count.ensures in
          let (p, invalid_at, error_eq) = c.fail.ensures.names (λ a.
          digits_not_invalid _ invalid.invalid_index ((digits_append _ _).1 (next.ensures.pending_valid r.pending_valid, a))
          invalid.first_invalid) in
          rw error_eq (
            omega (arith, size),
            first_invalid_in_chunk _ c.args.chunk.now _ _ next.ensures.body next.ensures.pending_valid t bs r p
                next.ensures.shorter invalid_at,
          );
      within = search rules;
      most = search rules;
      enough = search rules;
      rest = search rules;
      unchanged = search rules;
      after_error = λ t bs r _.
          rw (body_added _ c.args.chunk.now _ _ next.ensures.body next.ensures.pending_valid t bs r)
          (partial_pairs c.args.output.now _ c.decode_next.new.output c.count_pairs-count.result (omega arith)
          (sym c.count_pairs-count.ensures) invalid);
      error_stored = search rules;
      error_repeated = search rules;
    }

pub returns : goal.returns
returns g c =
    let next = c.next_digits-pending in
    let n = c.count_pairs-count.result in
    let new = c.decode_next.new.output in
    let space : length (take n c.args.output.now) ≡ n = length-take-le n c.args.output.now (omega arith) in
    let size : length new ≡ n = c.decode_next.auto.output ∙ space in
    let reported = c.if-not-decode_next.ensures in record {
      ok = λ t bs r.
          rw (take_at new (drop n c.args.output.now) n size)
          (decode_more _ c.args.chunk.now _ _ next.ensures.body next.ensures.pending_valid t bs r c.advance.new.self n
          (reported.digits refl) c.advance.ensures.no_error c.advance.ensures.index
          (c.advance.ensures.pending ∙ c.left_over.ensures) new (rw space at (reported.spells refl)));
      outcome = λ t bs r. (
        omega arith,
        decoded_length _ c.args.chunk.now _ _ next.ensures.body next.ensures.pending_valid t bs r _
            c.count_pairs-count.ensures,
        body_is_digits _ c.args.chunk.now _ _ next.ensures.body next.ensures.pending_valid t bs r
            (reported.digits refl),
      );
      within = search rules;
      most = search rules;
      enough = search rules;
      rest = drop_at new (drop n c.args.output.now) n size;
      unchanged = search rules;
      after_error = search rules;
      error_stored = search rules;
      error_repeated = search rules;
    }
