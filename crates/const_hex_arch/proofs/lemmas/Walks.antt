-- Manual proofs by symbolic execution (walks), for functions that return an `Option` of a vector. The
-- generated proofs do not cover these yet.
--
-- Here are first the rules of symbolic execution, which other crates cite too, then facts about vectors of n
-- lanes and about a vector with a flag, and last the walk of `decode_chunk`, for 16 lanes and for 32.
-- The `Proof.antt` of each `decode_chunk` names its calls and passes them to it.
--
-- `𝓤` is the resource algebra of the separation logic `𝓛`, `𝓜` is the memory model, and `𝓡` is the running program.
-- `κs` are the lifetimes, `qs` the shares of their tokens, `a` the arguments, `are` facts about them, and `l` are the
-- locals. `G` is the contract of the call as a triple, `z` its arguments, `r` its result, and `v` the machine value of
-- that. Each line that ends in `$` applies a rule to the symbolic state. `qed 𝓛 S ∵ rules` proves the goal from the
-- state S by these rules. A resource is `‵ F` for a formula, or `raw P` for any assertion; `⊛` is the separating
-- conjunction. `wired` says that this program has the code of the function and of those that it calls. `F.met`, which
-- is generated, proves that F meets its contract.
--
-- What breaks the walk: it refers to the function's locals by number, and to its statements in
-- their order. So every edit of the body of `decode_chunk` breaks it. An edit of a function that it
-- calls does not.
--
-- How to repair it: after the edit `rt check --generated FOLDER --start decode_chunk` writes its
-- steps and locals to `Code/Mir.antt` in that folder. Replace the old numbers by the new ones, from
-- the top down, and check after each. The check names the first step that no longer fits. The
-- toolchain's guide is its `docs/WALKS.md`.
--
-- The steps: `enter` begins the body; `alloc_all` allocates the locals; `pass_all` stores the arguments in them;
-- `sets` executes an assignment; `sets_last` the last one of a branch; `calls_at` executes a call by its contract;
-- `lands_as` stores its result; `branches` executes an `if`; `exec` goes on after it; `returns` reads the result;
-- `free_all` frees the locals; `suffices` states what is left to prove; `split` and `join` take apart and build a
-- separating conjunction; `drop` discards a resource; `use0`, `use1` and `use2` apply an entailment to so many
-- resources; `pick` opens an existential; `await` removes an update of ghost state; `heard` extracts a pure fact;
-- `owned` adds a value by its representation; `nothing` adds an empty resource; `group` joins several parts; `done`
-- ends the proof.
pub use Rattle.std.proofs.Common.{ℕ, List, [], ◌∷◌, Bool, refl, lit<, w8, IsTrue, ◌↔◌, ◌≡◌, ◌*◌, true, false, not, T, length, ap, ◌∙◌, Bor, MutBor, ◌++◌, ◌&&◌, subst, arith, IsNone, IfSome}
pub use Rattle.std.proofs.option.Made.{Some-of, none_of}
pub use Rattle.std.proofs.raw_atomic.Walks.{proved}
pub use Rattle.std.specs.List.{concat}
pub use Rattle.std.specs.Prelude.{Option, Some, None, IsOk, IfOk, Ok, Err, IfErr, MatchResult, Result}
pub use base.Fml.{ftrue, GName, flft, fres}
pub use base.Logic.{id⊢, emp, sep}
pub use contract.Monad.{fact, fact_i}
pub use contract.Running.{tables, Running}
pub use denote.Array.{Array-Tells, Array-Lawful, array_vals}
pub use denote.Builtin.{u8, bool, SliceRefOf, RefOf, RefMutOf, Simd, SimdOf, ArrayOf}
pub use denote.Exit.{yes, no, left}
pub use denote.Laws.{shows, Is, Tells, Lawful}
pub use denote.Plain.{uint_Makes, uint_Lawful, uint_vals, bool_vals, bool_Makes, uint_Tells}
pub use denote.RattleType.{RattleType}
pub use denote.Signature.{Slot, plain}
pub use denote.Simd.{Simd-Lawful, Simd-Makes, Simd-Tells}
pub use denote.Steps.{nothing, owned, facts, peeks, heard, only}
pub use denote.Struct.Struct.{as_fields}
pub use denote.Triple.Call.{calls_at}
pub use denote.Triple.Clauses.{lasts, Clauses, Ended, closing, Lasts}
pub use denote.Triple.Spec.{triple_of, Meets}
pub use denote.Triple.Table.{framed}
pub use denote.Triple.Walked.{Stays, walk_of, stay_dropped, Goes-dropped, ends_at, Goes-spent_slice}
pub use mir.Syntax.{ty_array, ty_int, ty_bool, Fn, Body, Callee, local, value_local, ty_ref, imm, mut, erased, field, deref, place, copy, int, rv_opd, addr_of, aggregate, assign, call, cond, seq, named, Ty, a_number, return as end}
pub use mir.Val.{vbool, of_list, Val, vptr, WT, has_ty, vstruct}
pub use prog.Model.{Model}
pub use prog.Wp.{Closed}
pub use seplogic.Ra.Ura.{Ura}
pub use types.ByLocal.{alloc_all, pass_all, free_all, look_at, get, get_in, sets, sets_last, lands_as, env, look_in_at, through}
pub use types.Kit.{‵, raw, ◌⊛◌, some, later, at_ret, ◌$◌, ◌∵◌, !, qed, done, move, keep, drop, use0, use1, split, join, pick, await, suffices, group, use2, rewrite, frame}
pub use types.Logic.{Logic, sem}
pub use types.Match.{live}
pub use types.Part.{agg, whole, sub}
pub use types.Run.{enter, of_opd, lit, fld, stop, no_more, and_then, first, branches, exec, returns, addr, hop, from}
use Rattle.const_hex_arch.specs.{AllDigits, Spells}
use denote.Struct.Tuple.{Tuple}
use Rattle.std.specs.contracts.option.Option as OP
use denote.Param.{layout}

-- ---- a flag that is true

pub and_true : (b : Bool) → T b → T (b && true)
and_true true t = tt
and_true false t = absurd t

-- ---- the clauses of `decode_chunk`, from the clauses of the vector with a flag

-- the clause of `decode_chunk` for None: there is an invalid character
abbrev pub NoneClause : List ℕ → Option (List ℕ) → Type 0
NoneClause text result = IsNone result ↔ ¬ AllDigits text

-- the clause of `decode_chunk` for Some: the text decodes to these bytes
abbrev pub SpellsClause : List ℕ → Option (List ℕ) → Type 0
SpellsClause text result = IfSome result (Spells text)

module _ (text bytes : List ℕ) (are_digits : Bool) (digits : IsTrue are_digits ↔ AllDigits text)
    (spells : IsTrue are_digits → Spells text bytes) where
  -- both clauses hold if the flag is true
  pub some_is : T are_digits → NoneClause text (Some bytes) × SpellsClause text (Some bytes)
  some_is t = grind (arith, digits, spells, t)

  -- both clauses hold if the flag is false
  pub none_is : T (not are_digits) → NoneClause text None × SpellsClause text None
  none_is t = grind (arith, digits, t)

-- ---- vectors of n lanes

module _ (n : ℕ) where
  -- the type of a vector of n bytes
  abbrev pub Lanes : RattleType
  Lanes = Simd u8 tt n

  -- a parameter of two vectors, and its machine value
  abbrev pub Pair : {k : ℕ} → Slot k
  Pair = ArrayOf (SimdOf (plain (λ _. u8)) (λ _. tt) n) (λ _. tt) 2

  -- the machine values of a vector
  abbrev pub lanes_vals : List ℕ → List Val
  lanes_vals = array_vals (uint_vals w8)

  -- the machine values of two vectors
  abbrev pub pair_vals : List (List ℕ) → List Val
  pair_vals = array_vals lanes_vals

  -- a vector's machine values are determined by its lanes
  pub lanes_Tells : Tells Lanes (Is Lanes) lanes_vals
  lanes_Tells = Simd-Tells u8 (uint_vals w8) (uint_Tells w8) n

  -- a vector with a flag
  abbrev pub Flagged : RattleType
  Flagged = Tuple (Lanes ∷ bool ∷ [])

  -- the machine value of a vector with a flag is a struct of two fields
  pub flagged_is : (r : List ℕ × Bool) (v : Val) → Is Flagged r (v ∷ [])
      → v ≡ vstruct (of_list (only (lanes_vals r.0) ∷ vbool r.1 ∷ []))
  flagged_is r v is =
      ap only is.1.0 ∙ λ i. vstruct (of_list (lanes_Tells r.0 is.0.0 is.1.1.0 i ++ (is.1.1.1.0 i ++ [])))

  -- its first field holds the vector
  pub flagged_lanes : (r : List ℕ × Bool) (v : Val) → Is Flagged r (v ∷ []) → Is Lanes r.0 (only (lanes_vals r.0) ∷ [])
  flagged_lanes r v is = subst (λ us. Is Lanes r.0 us) (lanes_Tells r.0 is.0.0 is.1.1.0) is.1.1.0

  -- what `decode_chunk` returns: a vector or nothing
  abbrev pub OptionLanes : RattleType
  OptionLanes = OP.the_row Lanes

-- ---- the walk of `decode_chunk`, for any number of lanes

module _ (n : ℕ) where
  -- the signature of `decode_chunk`
  abbrev pub DecodeChunk : Ended
  DecodeChunk = record {
    signature = record { lifetimes = 0; outlives = []; params = Pair n ∷ []; result = plain (λ κs. OptionLanes n) };
    kept = (yes, tt);
  }

  -- the signature of `decode_flagged`
  abbrev pub DecodeFlagged : Ended
  DecodeFlagged = record {
    signature = record { lifetimes = 0; outlives = []; params = Pair n ∷ []; result = plain (λ κs. Flagged n) };
    kept = (yes, tt);
  }

  -- the last basic block
  abbrev return_block : Body
  return_block = seq (assign (place 0 []) (rv_opd (copy (place 6 [])))) end

  -- the MIR of `decode_chunk`. Its locals: 0 is the result, 1 the text, 2 the bytes, 3 and 5 the flag, 4 what the call
  -- returns, 6 the Option
  abbrev decode_chunk_code : Callee → Fn
  decode_chunk_code decode_flagged = record {
    lifetimes = 0;
    outlives = [];
    ty_params = [];
    givens = 0;
    params = 1;
    locals = local (layout (OptionLanes n)) value_local
        ∷ local (ty_array (ty_array (ty_int w8) n) 2) value_local
        ∷ local (ty_array (ty_int w8) n) value_local
        ∷ local ty_bool value_local
        ∷ local (layout (Flagged n)) value_local
        ∷ local ty_bool value_local
        ∷ local (layout (OptionLanes n)) value_local
        ∷ [];
    body = seq (call decode_flagged (copy (place 1 []) ∷ []) (place 4 []))
        (seq (assign (place 2 []) (rv_opd (copy (place 4 (field 0 ∷ [])))))
        (seq (assign (place 3 []) (rv_opd (copy (place 4 (field 1 ∷ [])))))
        (seq (assign (place 5 []) (rv_opd (copy (place 3 []))))
        (seq (cond (copy (place 5 [])) (assign (place 6 []) (aggregate (int w8 1 ∷ copy (place 2 []) ∷ [])))
        (assign (place 6 []) (aggregate (int w8 0 ∷ []))))
        return_block))));
  }

  module _ {M : Type 1} (𝓤 : Ura M) (𝓛 : Logic 𝓤) (𝓜 : Model 𝓤 𝓛.H) (𝓡 : Running 𝓤 𝓛.H 𝓜) where
    -- the contract of `decode_chunk`, in separation logic
    abbrev decode_chunk_clauses : Clauses 𝓤 DecodeChunk
    decode_chunk_clauses κs a = record {
      ghost = Unit {0};
      requires = λ g. emp 𝓤;
      ensures = λ g r e. sep 𝓤 (fact 𝓤 (NoneClause (concat a.0) r)) (fact 𝓤 (SpellsClause (concat a.0) r));
    }

    -- the contract of `decode_flagged`
    abbrev decode_flagged_clauses : Clauses 𝓤 DecodeFlagged
    decode_flagged_clauses κs a = record {
      ghost = Unit {0};
      requires = λ g. emp 𝓤;
      ensures = λ g r e.
          sep 𝓤 (fact 𝓤 (IsTrue r.1 ↔ AllDigits (concat a.0))) (fact 𝓤 (IsTrue r.1 → Spells (concat a.0) r.0));
    }

    -- if the call meets its clauses, so does the function
    pub some_or_none : (self decode_flagged : Callee)
        → Closed 𝓤 𝓛.H (tables 𝓤 𝓛.H 𝓜 𝓡 𝓡.env).C (tables 𝓤 𝓛.H 𝓜 𝓡 𝓡.env).Λ self (decode_chunk_code decode_flagged)
        → Meets 𝓛 DecodeFlagged.signature (𝓡.run (𝓡.env decode_flagged)) (closing 𝓛 DecodeFlagged decode_flagged_clauses)
        → Meets 𝓛 DecodeChunk.signature (𝓡.run (𝓡.env self)) (closing 𝓛 DecodeChunk decode_chunk_clauses)
    some_or_none self decode_flagged unfolded met =
        let hs : Stays DecodeChunk.signature.params DecodeChunk.kept = (stay_dropped _ yes, tt) in
        let fn = decode_chunk_code decode_flagged in
        let W = walk_of 𝓛 DecodeChunk hs decode_chunk_clauses in let 𝓣 = tables 𝓤 𝓛.H 𝓜 𝓡 𝓡.env in
        let V = Lanes n in
        let lawful = Simd-Lawful 𝓛 u8 (uint_Lawful 𝓛 w8) n in
        proved 𝓛 DecodeChunk hs decode_chunk_clauses 𝓜 𝓡 (Goes-dropped 𝓛 0 (Pair n) yes (λ κs x w. refl), tt)
        self fn unfolded
        (λ κs. (pair_vals n, tt)) (λ κs. (Array-Tells V (lanes_vals n) (lanes_Tells n) 2, tt)) (λ κs qs bounds a _ are.
        let text = concat a.0 in
        let G = triple_of 𝓛 DecodeFlagged.signature (closing 𝓛 DecodeFlagged decode_flagged_clauses) in
        let z : G.Ghost = ((κs, qs, bounds, a, (pair_vals n a.0, tt)), tt) in
        let y : W.Ghost = ((κs, qs, bounds, a, (pair_vals n a.0, tt)), tt) in
        qed 𝓛 (raw (G.pre z) ∷ []) ∵ enter ! _ _ _ _ _ $
        alloc_all ! (λ l. pass_all ! refl ((Array-Lawful 𝓛 V lawful 2).typed a.0 _ are.0) $
        -- the call: what its contract ensures for r, the vector with its flag, whose machine value is v
        calls_at ! (framed 𝓤 𝓛.H 𝓜 𝓣) G met z
        (and_then ! (get ! refl) (no_more !)) (λ v.
        use1 𝓛 (later (some (λ (r : List ℕ × Bool). (‵ ftrue ⊛ ‵ ((Flagged n).own_val r (v ∷ []))) ⊛
        some (λ (ws : Unit {0} × Unit {0}). ‵ (lasts DecodeFlagged κs a ws) ⊛
        (raw (fact 𝓤 (IsTrue r.1 ↔ AllDigits text)) ⊛ raw (fact 𝓤 (IsTrue r.1 → Spells text r.0))))))) (id⊢ 𝓤 _) $
        await ! tt $ pick !
        (λ r. split ! $ split ! $ drop ! $ facts ! (Flagged n) _ (shows 𝓛 (Flagged n)) r (v ∷ []) (λ is.
        pick ! (λ ws. split ! $ drop ! $ split ! $ heard ! _ (λ digits. heard ! _ (λ spells.
        let bytes = only (lanes_vals n r.0) in
        let held = flagged_lanes n r v is in
        let typed = lawful.typed r.0 (bytes ∷ []) held in
        -- the two locals, and the branch
        lands_as ! (flagged_is n r v is) refl
        (as_fields (ty_array (ty_int w8) n ∷ ty_bool ∷ []) (bytes ∷ vbool r.1 ∷ []) (typed.0, ((tt, tt), tt))) $
        sets ! (of_opd ! (get_in ! (fld ! refl (stop !)) (sub ! 0 refl (whole !)))) refl typed.0 $
        sets ! (of_opd ! (get_in ! (fld ! refl (stop !)) (sub ! 1 refl (whole !)))) refl (tt, tt) $
        sets ! (of_opd ! (get ! refl)) refl (tt, tt) $
        first ! $ branches ! (get ! refl)
        (λ yes.
        let clauses = some_is text r.0 r.1 digits spells yes in
        sets_last ! (agg ! (and_then ! (lit ! tt) (and_then ! (get ! refl) (no_more !)))) refl
        (and_true _ typed.0.0, (record { fits = lit< tt }, (typed.0.1, tt))) $
        exec ! 𝓣.C 𝓣.Λ (env fn.locals l) return_block (at_ret _ (W.post y)) $
        sets ! (of_opd ! (get ! refl)) refl (and_true _ typed.0.0, (record { fits = lit< tt }, (typed.0.1, tt))) $
        returns ! (look_at ! 0 refl) $ free_all ! refl $
        suffices ! _ (ends_at 𝓛 DecodeChunk hs decode_chunk_clauses y (live 1 (of_list (bytes ∷ []))) (Some r.0) (tt, tt) (tt, tt)) $
        use0 𝓛 (raw (fact 𝓤 (SpellsClause text (Some r.0)))) (fact_i 𝓤 _ (emp 𝓤) clauses.1) $
        use0 𝓛 (raw (fact 𝓤 (NoneClause text (Some r.0)))) (fact_i 𝓤 _ (emp 𝓤) clauses.0) $ join ! $
        owned ! V _ (Simd-Makes 𝓛 u8 (uint_Makes 𝓛 w8) n) r.0 _ held $
        use1 𝓛 (‵ ((OptionLanes n).own_val (Some r.0) (live 1 (of_list (bytes ∷ [])) ∷ []))) (Some-of 𝓛 V r.0 bytes) $
        nothing ! $ nothing ! $ join ! $ nothing ! $ group ! 3 $ done !)
        (λ no.
        let clauses = none_is text r.0 r.1 digits spells no in
        sets_last ! (agg ! (and_then ! (lit ! tt) (no_more !))) refl (tt, (record { fits = lit< tt }, tt)) $
        exec ! 𝓣.C 𝓣.Λ (env fn.locals l) return_block (at_ret _ (W.post y)) $
        sets ! (of_opd ! (get ! refl)) refl (tt, (record { fits = lit< tt }, tt)) $
        returns ! (look_at ! 0 refl) $ free_all ! refl $
        suffices ! _ (ends_at 𝓛 DecodeChunk hs decode_chunk_clauses y (live 0 (of_list [])) None (tt, tt) (tt, tt)) $
        use0 𝓛 (raw (fact 𝓤 (SpellsClause text None))) (fact_i 𝓤 _ (emp 𝓤) clauses.1) $
        use0 𝓛 (raw (fact 𝓤 (NoneClause text None))) (fact_i 𝓤 _ (emp 𝓤) clauses.0) $ join ! $
        use0 𝓛 (‵ ((OptionLanes n).own_val None (live 0 (of_list []) ∷ []))) (none_of 𝓛 V) $
        nothing ! $ nothing ! $ join ! $ nothing ! $ group ! 3 $ done !)))))))))
