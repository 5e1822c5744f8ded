-- Proofs of open goals, named after their places: `returns` is the return at the end; `then-F` is the `then` branch of
-- the `if` that tests F. `c` has the facts that are known there: `c.args` are the arguments; `c.F.ensures` is what the
-- call of F ensures; `c.F.new` is what it has changed; `F-x` is a call whose result is named x; `c.if-F` is the test of
-- F. `search` is a proof search.
use Rattle.std.proofs.Common.{◌∙◌, refl, rules}
use Rattle.std.proofs.lemmas.Bool.{false≢true}
use Rattle.const_hex.proofs.lemmas.Decoding.{first_invalid_in_chunk, body_is_digits, check_more}
use Rattle.const_hex.proofs.codec.decoder.Decoder.check.Goals as goal

pub returns-then-not-check : goal.returns-then-not-check
returns-then-not-check c =
    let next = c.next_digits-pending in
    let (p, invalid_at, error_eq) = c.fail.ensures.names (λ a. false≢true (c.if-not-check.ensures.1 a)) in record {
      ok = search rules;
      outcome = λ t bs r.
          rw error_eq
          (first_invalid_in_chunk _ c.args.chunk.now _ _ next.ensures.body next.ensures.pending_valid t bs r p
          next.ensures.shorter invalid_at);
      error_stored = search rules;
      error_repeated = search rules;
    }

pub returns : goal.returns
returns c =
    let next = c.next_digits-pending in
    let all = c.if-not-check.ensures.0 refl in record {
      ok = λ t bs r.
          check_more _ c.args.chunk.now _ _ next.ensures.body next.ensures.pending_valid t bs r c.advance.new.self _ all
          c.advance.ensures.no_error c.advance.ensures.index
          (c.advance.ensures.pending ∙ c.left_over.ensures) c.count_pairs-pairs.ensures;
      outcome = λ t bs r. body_is_digits _ c.args.chunk.now _ _ next.ensures.body next.ensures.pending_valid t bs r all;
      error_stored = search rules;
      error_repeated = search rules;
    }
