-- Proofs of open goals, named after their places: `returns` is the return at the end; `then-F` is the `then` branch of
-- the `if` that tests F; `in-V` is the arm V of a `match`; `in_err-F` is the error that `?` returns after F;
-- `L-preserved` is the invariant after an iteration of the loop L; `clause-X` is the clause X of the contract. `c` has
-- the facts that are known there: `c.args` are the arguments; `c.F.ensures` is what the call of F ensures; `c.F.result`
-- is its result; `c.F.new` is what it has changed; `in_ok-F` is F, where `?` goes on after it; `F-x` is a call whose
-- result is named x; `c.if-F` is the test of F; `c.L` has the variables of the loop L and its invariant. `g` has the
-- type parameters and their traits' members. `search` is a proof search.
use Rattle.std.proofs.Common.{rules, ◌++◌, ◌+◌, [], Some, length, take, arith, length-take, refl}
use Rattle.std.proofs.KnownBytes.{Appends-kept, Appends-trans, Consumes-kept, Consumes-trans}
use Rattle.std.proofs.Math.Seq.{take-append-add}
use Rattle.hexfilter_core.proofs.lemmas.Groups.{if_err, if_ok}
use Rattle.hexfilter_core.proofs.lemmas.Runs.{same_error}
use Rattle.hexfilter_core.proofs.lemmas.Texts.{shorter_output, reached_beginning, output_so_far}
use Rattle.hexfilter_core.proofs.runs.run.Goals as goal

-- by the loop invariant, x was read and y was written so far: has, read and wrote are its three facts
pub returns-in_err-count-clause-partly_written : goal.returns-in_err-count-clause-partly_written
returns-in_err-count-clause-partly_written g c =
    let (x, y, has, read, wrote) = c.chunks.invariant in
    if_err c.from_residual.result
    (x, y, Consumes-kept _ _ _ x read c.in_err-count.ensures.nothing_read, output_so_far c.args.mode _ x y has, wrote)

pub returns-in_err-write_piece-clause-partly_written : goal.returns-in_err-write_piece-clause-partly_written
returns-in_err-write_piece-clause-partly_written g c =
    let (x, y, has, read, wrote) = c.chunks.invariant in
    let piece = take c.process_chunk-end.result.0 c.process_chunk-end.new.output in
    let (n, begun) = c.in_err-write_piece.ensures.partly_written in
    let fewer = rw (take-append-add y piece n) at (shorter_output c.args.mode _ (y ++ piece) (length y + n)
    (reached_beginning _ _ (Some []) _ _ _ _ (c.process_chunk-end.ensures.reaches x y (Some []) has (λ none. refl)))) in
    if_err c.from_residual-in_err-write_piece.result
    (_, _, Consumes-trans _ _ _ x _ read c.in_ok-count.ensures.bytes, fewer, Appends-trans _ _ _ y _ wrote begun)

pub returns-in-Some : goal.returns-in-Some
returns-in-Some g c =
    let (x, y, has, read, wrote) = c.chunks.invariant in
    let bytes = Consumes-trans _ _ _ x _ read c.in_ok-count.ensures.bytes in
    let more = Appends-trans _ _ _ y _ wrote c.in_ok-write_piece.ensures.ok in
    let made = c.process_chunk-end.ensures.reaches x y (Some []) has (λ none. refl) in record {
      ok = search rules;
      text = λ e location result_eq.
          let fails = rw c.in-Some.is at
          (c.process_chunk-end.ensures.reaches x y (g.R.Read.remaining c.read_chunk.new.input) has
          (λ none. c.in_ok-count.ensures.end
          (omega (arith, none, length-take c.in_ok-count.count c.read_chunk.new.buffer, c.in_ok-count.ensures.bound))
          (omega (arith, c.read_chunk.auto.buffer)))) in
          (_, _, bytes, rw (same_error _ _ result_eq) at fails, more);
      partly_written = (_, _, bytes, reached_beginning _ _ (Some []) _ _ _ _ made, more);
      retried = let fails = rw c.in-Some.is at made in grind (arith, fails);
    }

pub chunks-preserved : goal.chunks-preserved
chunks-preserved g c =
    let (x, y, has, read, wrote) = c.chunks.invariant in
    let more = Appends-trans _ _ _ y _ wrote c.in_ok-write_piece.ensures.ok in (
      _,
      _,
      (rw c.in_default.is at (c.process_chunk-end.ensures.reaches x y (Some []) has (λ none. refl))).0 (omega (
        arith,
        length-take c.in_ok-count.count c.read_chunk.new.buffer,
        c.in_ok-count.ensures.bound,
        c.if-count-eq0.false,
      )),
      Consumes-trans _ _ _ x _ read c.in_ok-count.ensures.bytes,
      more,
    )

pub returns-clause-partly_written : goal.returns-clause-partly_written
returns-clause-partly_written g c =
    search (rules, output_so_far)

pub returns-then-count-eq0 : goal.returns-then-count-eq0
returns-then-count-eq0 g c =
    let (x, y, has, read, wrote) = c.chunks.invariant in
    let got = c.in_ok-count.ensures in
    let bytes = Consumes-trans _ _ _ x _ read got.bytes in
    let more = Appends-trans _ _ _ y _ wrote c.in_ok-write_piece.ensures.ok in
    let kept = Appends-kept _ _ _ _ more c.flush.ensures.bytes in
    let made = c.process_chunk-end.ensures.reaches x y (Some []) has (λ none. refl) in
    let makes = (rw c.in_default.is at made).1
    (omega (arith, length-take c.in_ok-count.count c.read_chunk.new.buffer, c.if-count-eq0.true)) in
    let end = got.end c.if-count-eq0.true (omega (arith, c.read_chunk.auto.buffer)) in record {
      ok = if_ok c.flush.result (_, _, bytes, end, makes, kept);
      text = search rules;
      partly_written = if_err c.flush.result (_, _, bytes, reached_beginning _ _ (Some []) _ _ _ _ made, kept);
      retried = search rules;
    }
