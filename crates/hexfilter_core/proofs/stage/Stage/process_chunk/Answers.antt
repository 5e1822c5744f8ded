-- Proofs of open goals, named after their places: `returns` is a return; `in-V` is the arm V of a `match`; `clause-X`
-- is the clause X of the contract; `-2` is the second one of that name. `c` has the facts that are known there:
-- `c.args` are the arguments; `c.F.ensures` is what the call of F ensures; `c.F.result` is its result; `c.F.new` is
-- what it has changed; `F-x` is a call whose result is named x.
--
-- `x` is the input that was read, `y` is the output that was written for it, and `has` is the fact that they match the
-- state.
use Rattle.std.proofs.Common.{◌≡◌, ◌++◌, [], ℕ, List, Bool, true, false, if◌then◌else◌, ap, append-nil, arith, length}
use Rattle.std.proofs.lemmas.Bool.Decides.{nat_tests}
use Rattle.std.proofs.lemmas.Grind.{common_steps}
use Rattle.hexfilter_core.proofs.lemmas.Groups.{encoded_last, encoded_more}
use Rattle.hexfilter_core.proofs.stage.Stage.process_chunk.Goals as goal

-- a suffix is written after the text of a chunk: the newline at the end of the input, else nothing
with_suffix : (is_eof : Bool) (suffix text newline out : List ℕ) → suffix ≡ (if is_eof then newline else [])
    → out ≡ text ++ suffix
    → (is_eof ≡ true → out ≡ text ++ newline) × (is_eof ≡ false → out ≡ text)
with_suffix is_eof suffix text newline out suffix_eq out_eq = grind (arith, append-nil)

pub returns-in-Encode-clause-reaches : goal.returns-in-Encode-clause-reaches
returns-in-Encode-clause-reaches c = λ x y in_after has end.
    let m = c.in-Encode in
    let made = rw m.is at has in
    let ensured = c.encode-end.ensures in
    let new = c.encode-end.new.self in
    let put = with_suffix c.is_empty-is_eof.result _ _ _ _ c.last_newline-newline.ensures c.put.ensures.front in
    rw m.is (
      λ some. rw (put.1 (grind (arith, nat_tests, some)))
          (encoded_more m.prefix m.upper m.groups _ new x y c.args.chunk.now _ made (ensured.text made.fits)
          ensured.prefix (ensured.group_fill made.fits)),
      λ none. rw (put.0 (grind (arith, nat_tests, none)))
          (encoded_last m.prefix m.upper m.groups _ new x y c.args.chunk.now _ made (ensured.text made.fits)
          ensured.prefix (ensured.group_fill made.fits)),
    )

pub returns-in-Decode-clause-reaches : goal.returns-in-Decode-clause-reaches
returns-in-Decode-clause-reaches c = λ x y in_after has end.
    let none : c.args.chunk.now ≡ [] = grind (arith, common_steps) in
    rw (c.in-Decode.is, none, append-nil x, append-nil y)
    (c.finish.ensures c.in-Decode.field-0 x y in_after (rw c.in-Decode.is at has) (end (ap length none)))

pub returns-in-Decode-2-clause-reaches : goal.returns-in-Decode-2-clause-reaches
returns-in-Decode-2-clause-reaches c = λ x y in_after has end.
    rw c.in-Decode-2.is (c.decode.ensures.reaches x y in_after (rw c.in-Decode-2.is at has))
