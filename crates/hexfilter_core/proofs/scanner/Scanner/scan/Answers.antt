-- Proofs of open goals, named after their places: `then-F` is the `then` branch of the `if` that tests F; `L-preserved`
-- is the invariant after an iteration of the loop L. `c` has the facts that are known there: `c.args` are the
-- arguments; `c.F.ensures` is what the call of F ensures; `c.F.result` is its result; `F-x` is a call whose result is
-- named x; `c.L` has the variables of the loop L and its invariant.
use Rattle.std.proofs.Common.{◌≡◌, ◌+◌, ◌-◌, ◌<◌, length, length-drop, length-take, arith, option_to_list, take, drop}
use Rattle.hexfilter_core.proofs.lemmas.Texts.{added_byte, added_run}
use Rattle.hexfilter_core.proofs.scanner.Scanner.scan.Goals as goal

pub runs-preserved-then-count-eq-LANES : goal.runs-preserved-then-count-eq-LANES
runs-preserved-then-count-eq-LANES c =
    let i = c.runs.invariant in
    let ran = c.copy_run-count.ensures in
    let chunk = c.args.chunk.now in
    let done = c.runs.done in
    let size : length (take (length chunk - done) (drop done chunk)) ≡ length chunk - done =
    simp (length-take, length-drop) (omega arith) in
    let space = c.runs.auto.output in record {
      within = omega (arith, ran.within, size);
      fewer = omega arith;
      so_far = λ x has.
          added_run _ _ _ x _ _ c.runs.end done (i.so_far x has) _ c.copy_run-count.result _ i.within
          (omega (arith, space)) (omega (arith, ran.length, ran.within, size, space)) ran.added;
    }

pub runs-preserved : goal.runs-preserved
runs-preserved c =
    let chunk = c.args.chunk.now in
    let done = c.runs.done in
    let n = c.copy_run-count.result in
    let i = c.runs.invariant in
    let ran = c.copy_run-count.ensures in
    let inside : done + n < length chunk = omega arith in
    let size : length (take (length chunk - done) (drop done chunk)) ≡ length chunk - done =
    simp (length-take, length-drop) (omega arith) in
    let space = c.runs.auto.output in record {
      within = omega arith;
      fewer = omega (arith, c.put-end.ensures.within);
      so_far = λ x has.
          let run = added_run _ _ _ x chunk _ c.runs.end done (i.so_far x has) _ n _ i.within (omega (arith, space))
          (omega (arith, ran.length, ran.within, size, space)) ran.added in
          added_byte _ _ _ x chunk _ (c.runs.end + n) (done + n) run _ (option_to_list c.scan_byte-added.result)
          c.put-end.result inside c.put-end.ensures.front
          (c.scan_byte-added.ensures _ run.scanned);
    }
