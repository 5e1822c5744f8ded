-- Proofs of open goals, named after their places: `returns` is a return; `then-F` is the `then` branch of the `if` that
-- tests F; `in-V` is the arm V of a `match`; `clause-X` is the clause X of the contract. `c` has the facts that are
-- known there: `c.args` are the arguments; `c.F.ensures` is what the call of F ensures; `c.F.result` is its result;
-- `c.F.new` is what it has changed; `F-x` is a call whose result is named x. `g` has the type parameters and their
-- traits' members.
use Rattle.std.proofs.Common.{◌≡◌, List, ℕ, Some, Option, true, false, refl, Bor, option_copied}
use Rattle.hexfilter_core.proofs.lemmas.Runs.{ends}
use Rattle.hexfilter_core.proofs.process.run_on.Goals as goal

-- a name that is there is the name that the contract speaks of
same_name : (name : Option (Bor (List ℕ))) (b : Bor (List ℕ)) (n : List ℕ) → name ≡ Some b → option_copied name ≡ Some n
    → b.now ≡ n
same_name name b n name_eq named = cc

pub returns-then-is_output-clause-file : goal.returns-then-is_output-clause-file
returns-then-is_output-clause-file g c = λ n named.
    let written : g.H.Host.is_written c.args.host.now (Some n) ≡ true = cc in
    (refl, (g.H.Host.bytes c.args.host.now n, rw written (refl, refl, refl)))

pub returns-in-Ok-clause-file : goal.returns-in-Ok-clause-file
returns-in-Ok-clause-file g c = λ n named.
    let name = same_name c.args.name c.in-Some.name n c.in-Some.is named in
    let written : g.H.Host.is_written c.args.host.now (Some n) ≡ false = cc in
    let opened : g.H.Host.can_open c.args.host.now n ≡ true = cc c.in-Ok.ensures.can in
    let bytes : g.H.File.Read.remaining c.in-Ok.file ≡ g.H.Host.bytes c.args.host.now n = cc c.in-Ok.ensures.bytes in
    let ran = c.run-in-Ok.ensures in (
      refl,
      (
        g.H.File.Read.remaining c.run-in-Ok.new.input,
        rw (written, opened, ← bytes) (ends c.args.mode _ _ _ _ c.run-in-Ok.result ran.ok ran.text ran.partly_written),
      ),
    )

pub returns-in-Err-clause-file : goal.returns-in-Err-clause-file
returns-in-Err-clause-file g c = λ n named.
    let name = same_name c.args.name c.in-Some.name n c.in-Some.is named in
    let written : g.H.Host.is_written c.args.host.now (Some n) ≡ false = cc in
    let opened : g.H.Host.can_open c.args.host.now n ≡ false = cc c.in-Err.ensures.can in
    (refl, (g.H.Host.bytes c.args.host.now n, rw (written, opened) (refl, refl, refl)))
