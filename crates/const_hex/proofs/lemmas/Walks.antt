-- A walk is a manual proof by symbolic execution: it executes a function's MIR statement by statement, in separation
-- logic. It is needed for a starred clause (`after`), which says what a buffer or a slice holds once a borrow that was
-- returned has ended. The generated proofs of the borrow checker do not cover this.
-- `wired` says that this program has the code of the function and of those that it calls. `F.met`, which is generated,
-- proves that F meets its contract.
--
-- `LentText` is the walk for a function that returns the text inside the struct that one call returns:
-- `Buffer::format`, `format_upper`, `format_slice`, `format_slice_upper`. It keeps the clauses of that call, whatever
-- they are. `EncodedStr` is the walk for a function that passes a slice mutably to one call, and then immutably to
-- another: `encode_to_str` and `encode_to_str_upper`. The `Proof.antt` of each function passes its calls to the walk.
--
-- What breaks a walk: it refers to the function's locals by number, and to its calls in order. So a new local, a new
-- call or another order in one of these functions breaks it. Other code does not.
--
-- How to repair one: as `proofs/lemmas/Walks.antt` of `const_hex_arch` says, with `--start F` for the function F.
pub mod EncodedStr
pub mod LentText
use Rattle.std.proofs.Common.{Bool, true, false, List}
use seplogic.Ra.Ura.{Ura}
use mir.Syntax.{opd_true, opd_false, Opd as Operand}
use mir.Val.{vbool}
use prog.Wp.{Env}
use types.Logic.{Logic}
use types.Kit.{Item}
use types.Run.{Opd, true_lit, false_lit}

-- `true` or `false`, as a MIR operand
abbrev pub flag : Bool → Operand
flag true = opd_true
flag false = opd_false

-- to evaluate this operand gives the Boolean
pub flag_lit : {M : Type 1} {𝓤 : Ura M} {𝓛 : Logic 𝓤} {K : Type 0} {Γ : List (Item 𝓤)} {E : Env 𝓤 𝓛.H} (up : Bool) → K
    → Opd K 𝓛 Γ E (flag up) (vbool up)
flag_lit true = true_lit
flag_lit false = false_lit
