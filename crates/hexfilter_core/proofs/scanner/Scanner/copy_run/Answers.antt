-- Proofs of open goals, named after their places: `returns` is the return at the end; `then-F` is the `then` branch of
-- the `if` that tests F; `clause-X` is the clause X of the contract. `c` has the facts that are known there: `c.args`
-- are the arguments; `c.F.ensures` is what the call of F ensures; `c.F.result` is its result; `c.F.new` is what it has
-- changed; `F-x` is a call whose result is named x.
use Rattle.std.proofs.Common.{◌≡◌, ◌≤◌, take, arith, false, length-take-le, nat_lt, take-take}
use Rattle.std.proofs.lemmas.List.Elements.{All-take}
use Rattle.hexfilter_core.proofs.lemmas.Texts.{high_added, group_fill_bound}
use Rattle.hexfilter_core.proofs.scanner.Scanner.copy_run.Goals as goal

pub returns-then-reading-eq0-clause-added : goal.returns-then-reading-eq0-clause-added
returns-then-reading-eq0-clause-added c = λ x has.
    let copied = c.copy_block-count.ensures in
    rw copied.copied (high_added c.args.reading c.args.self.now _ _ x _ has copied.high (λ some. omega (arith, some))
    (omega (arith, group_fill_bound c.args.reading 0 x (omega arith), has.group_fill))
    (λ at. c.advance_by-self.ensures x _ at
    (omega (arith, length-take-le c.copy_block-count.result c.args.chunk.now (omega (arith, copied.within))))))

pub returns-clause-added : goal.returns-clause-added
returns-clause-added c = λ x has.
    let xs = c.args.chunk.now in
    let m = c.copy_block-count.result in
    let n = c.min-count.result in
    let copied = c.copy_block-count.ensures in
    let few : n ≤ m = omega arith in
    let size = length-take-le n xs (omega (arith, copied.within)) in
    let bound = group_fill_bound c.args.reading 0 x (omega arith) in
    let front = take-take n m xs few in
    let same : take n c.copy_block-count.new.output ≡ take n xs =
    cc (take-take n m c.copy_block-count.new.output few) in
    let high = rw front at (All-take (λ b. nat_lt b 33 ≡ false) n (take m xs) copied.high) in
    rw same (high_added c.args.reading c.args.self.now _ _ x (take n xs) has high
    (λ some. omega (arith, size, bound, has.group_fill)) (omega (arith, size, bound, has.group_fill))
    (λ at. c.advance_by-self-2.ensures x (take n xs) at size))
