-- Proofs of open goals, named after their places: `returns` is the return at the end; `F-requires` is what the call of
-- F requires; `clause-X` is the clause X of the contract. `c` has the facts that are known there: `c.args` are the
-- arguments; `c.F.ensures` is what the call of F ensures; `c.F.new` is what it has changed; `F-x` is a call whose
-- result is named x.
use Rattle.std.proofs.Common.{◌≡◌, ◌≤◌, ◌++◌, ◌∙◌, drop, length, length-take, refl, arith}
use Rattle.hexfilter_core.proofs.lemmas.Groups.{puts_pairs}
use Rattle.hexfilter_core.proofs.lemmas.Texts.{take_put}
use Rattle.hexfilter_core.proofs.groups.put_pairs.Goals as goal

pub copy_from_slice-requires : goal.copy_from_slice-requires
copy_from_slice-requires c =
    rw c.spread-first.ensures (omega (arith, length-take 8 c.args.output.now, c.requires.space))

pub returns-clause-groups : goal.returns-clause-groups
returns-clause-groups c = λ rest.
    let first = c.copy_from_slice.ensures.after ∙ c.spread-first.ensures in
    let second = c.copy_from_slice-2.ensures.after ∙ c.spread-second.ensures in
    let front = c.copy_from_slice.new.self ++ drop 8 c.args.output.now in
    let eight : length c.copy_from_slice-2.new.self ≡ 8 = rw second refl in
    let started : 6 ≤ length front =
    rw first (omega arith) in
    rw c.requires.pairs (puts_pairs c.args.groups.separator c.args.text.now rest c.requires.text
    ∙ rw (take_put 6 8 6 front c.copy_from_slice-2.new.self started (omega (arith, eight)), first, second) refl)
