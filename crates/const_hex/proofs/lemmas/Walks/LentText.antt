-- Symbolic execution (see `Walks`) of a function that fills a buffer by one call, which returns a borrow of the text
-- in a struct, and returns this borrow. One walk serves every such function, whatever the contracts are.
--
-- `Fills` and `Lends` are the signatures of the call and of the function, `G` is the contract of the call as a
-- triple, `z` are its arguments, and `d` is the struct that it returns. `n`, `p` and `len` are N, PREFIX and LEN.
--
-- A list in brackets is the symbolic state: the resources that are held there, in order. `𝓤` is the resource algebra of
-- the separation logic `𝓛`, `𝓜` is the memory model, and `𝓡` is the running program. `κs` are the lifetimes, `qs` the
-- shares of their tokens, `a` the arguments, `are` facts about them, and `v` is a machine value. Each line that ends in
-- `$` applies a rule to the symbolic state. `qed 𝓛 S ∵ rules` proves the goal from the state S by these rules. A
-- resource is `‵ F` for a formula, or `raw P` for any assertion; `⊛` is the separating conjunction.
--
-- The steps: `enter` begins the body; `alloc_all` allocates the locals; `pass_all` stores the arguments in them;
-- `sets` executes an assignment; `calls_at` executes a call by its contract; `lands_as` stores its result; `returns`
-- reads the result; `free_all` frees the locals; `suffices` states what is left to prove; `move` permutes the
-- resources; `split` and `join` take apart and build a separating conjunction; `drop` discards a resource; `use0`,
-- `use1` and `use2` apply an entailment to so many resources; `pick` opens an existential; `await` removes an update
-- of ghost state; `peeks` reads how a value is represented; `owned` adds a value by its representation; `nothing`
-- adds an empty resource; `done` ends the proof.
use Rattle.const_hex_arch.proofs.lemmas.Walks.{ℕ, length, Bool, List, [], ◌∷◌, refl, ap, T, proved, id⊢, ftrue, Ty, Fn, Callee, local, value_local, ty_ref, ty_int, imm, mut, erased, field, deref, place, copy, rv_opd, addr_of, assign, call, seq, a_number, named, w8, Val, vptr, WT, has_ty, Running, tables, Model, Closed, Ura, Logic, ‵, raw, ◌⊛◌, some, later, ◌$◌, ◌∵◌, !, qed, done, move, drop, use1, use2, split, join, pick, await, suffices, enter, of_opd, addr, fld, stop, no_more, and_then, returns, alloc_all, pass_all, free_all, look_at, get, get_in, sub, whole, through, sets, lands_as, u8, bool, RefOf, SliceRefOf, RefMutOf, yes, no, left, Is, Tells, shows, bool_vals, bool_Makes, Slot, plain, nothing, owned, peeks, only, calls_at, Clauses, Ended, closing, lasts, Lasts, Meets, triple_of, RattleType, framed, ends_at}
use mir.Syntax.{return as end}
use types.Kit.{fsplit, fjoin}
use contract.Lifetimes.{Lfts}
use denote.Exit.{Kept}
use denote.Memory.{pointee}
use denote.Param.{number, layout, Types, param, ArrayAt}
use denote.Ref.{mut_vals, mut_Tells, shr_Tells}
use denote.Signature.{named_lft}
use denote.Signature.Struct.{takes}
use denote.Slice.{slice_ty, slice_val, shr_slice_Tells}
use denote.Struct.Declared.{shape}
use denote.Struct.Laws.{owed, spells, tells, tellss}
use denote.Text.{StrRefOf, str-laws}
use denote.Triple.Clauses.{at_exit}
use denote.Triple.End.{Kepts}
use denote.Triple.Entry.{alive}
use denote.Triple.Walked.{Stay, Stays, Goes}
use Rattle.const_hex.specs.declared.buffer.Lent.{Lent}
use Rattle.const_hex.specs.contracts.buffer.Buffer.{the_row}
use Rattle.const_hex.specs.contracts.buffer.Lent as lent
use Rattle.const_hex.proofs.buffer.Lent.TheLaws as lent_laws
use Rattle.const_hex.proofs.lemmas.Walks.{flag, flag_lit}

-- what stays known of a parameter is only what the contract says
abbrev stays : {n : ℕ} (s : Slot n) (k : Kept) → Stay s k
stays s k = record { fit = λ κs x f. Unit {0}; has = λ κs x f vs. left ((s.row κs).exit k) x f }

-- the law of `stays`: at the return there is nothing to prove
goes : {M : Type 1} {𝓤 : Ura M} (𝓛 : Logic 𝓤) {n : ℕ} (s : Slot n) (k : Kept) → Goes 𝓛 n s k (stays s k)
goes 𝓛 s k κs x f vs ok = 𝓛.laws.⇛_intro _

-- a signature of five lifetimes, with what remains of each parameter after the return
abbrev pub ended_of : (params : List (Slot 5)) → Kepts params → Slot 5 → Ended
ended_of params kept result =
    record { signature = record { lifetimes = 5; outlives = []; params = params; result = result }; kept = kept }

-- the parameter for the bytes: its place in the signature, the machine value of an argument, which its representation
-- determines (`reports`), its type in MIR, and that the value has this type (`typed`)
pub record Input : Type 2 where
  pub slot : Slot 5
  pub val : (κs : Lfts 5) → (slot.row κs).Denot → Val
  pub reports : (κs : Lfts 5) → Tells (slot.row κs) (Is (slot.row κs)) (λ x. val κs x ∷ [])
  pub ty : Ty
  pub typed : (κs : Lfts 5) (x : (slot.row κs).Denot) → Is (slot.row κs) x (val κs x ∷ [])
      → T (has_ty ty (val κs x)) × WT (val κs x)

-- a slice of bytes
abbrev pub slice_input : Input
slice_input = record {
  slot = SliceRefOf (1 ∷ []) tt (plain (λ κs. u8)) (λ κs. tt);
  val = λ κs x. slice_val x.ref_ptr (length x.now);
  reports = λ κs. shr_slice_Tells (named 1) κs.1.0 u8;
  ty = slice_ty (ty_ref (named 1) imm (ty_int w8));
  typed = λ κs x repr. (tt, (tt, (record { fits = repr.0.1.0 }, tt)));
}

module _ (n p len : ℕ) where
  -- the const parameters, as type parameters
  abbrev pub numbers : Types (a_number ∷ a_number ∷ a_number ∷ [])
  numbers = (number n, (number p, (number len, tt)))

  -- an array of N bytes
  abbrev pub array_input : Input
  array_input = let A = ArrayAt u8 (param 0 (number n)) in record {
    slot = RefOf (1 ∷ []) tt (plain (λ κs. A)) (λ κs. tt);
    val = λ κs x. vptr x.ref_ptr.0 x.ref_ptr.1;
    reports = λ κs. shr_Tells (named 1) κs.1.0 A;
    ty = ty_ref (named 1) imm (pointee A.written);
    typed = λ κs x repr. (tt, tt);
  }

  -- the type of the buffer
  abbrev BufferType : RattleType
  BufferType = the_row (param 0 (number n)) (param 1 (number p)) (param 2 (number len))

  -- the parameter `&mut self`
  abbrev receiver : Slot 5
  receiver = RefMutOf (0 ∷ []) tt (plain (λ κs. BufferType)) (λ κs. tt)

  module _ (I : Input) (up : Bool) where
    -- the signature of the call
    abbrev pub Fills : Ended
    Fills = ended_of (receiver ∷ I.slot ∷ plain (λ κs. bool) ∷ []) (no, (yes, (yes, tt)))
        (plain (λ κs. lent.the_row (named_lft 5 0 tt κs)))

    -- the signature of the function
    abbrev pub Lends : Ended
    Lends = ended_of (receiver ∷ I.slot ∷ []) (no, (yes, tt)) (StrRefOf (0 ∷ []) tt)

    -- the MIR of the function. Its locals: 0 is the result, 1 the buffer, 2 the input, 3 the struct that the call
    -- returns, and 4 the buffer as it is lent to the call
    abbrev format_code : Callee → Fn
    format_code fills = record {
      lifetimes = 2;
      outlives = [];
      ty_params = [];
      givens = 0;
      params = 2;
      locals = local (slice_ty (ty_ref (named 0) imm (ty_int w8))) value_local
          ∷ local (ty_ref (named 0) mut (pointee BufferType.written)) value_local
          ∷ local I.ty value_local
          ∷ local (lent_laws.mir erased) value_local
          ∷ local (ty_ref erased mut (pointee BufferType.written)) value_local
          ∷ [];
      body = seq (assign (place 4 []) (addr_of (place 1 (deref (layout BufferType) ∷ []))))
          (seq (call fills (copy (place 4 []) ∷ copy (place 2 []) ∷ flag up ∷ []) (place 3 []))
          (seq (assign (place 0 []) (rv_opd (copy (place 3 (field 0 ∷ [])))))
          end));
    }

    module _ {M : Type 1} (𝓤 : Ura M) (𝓛 : Logic 𝓤) (𝓜 : Model 𝓤 𝓛.H) (𝓡 : Running 𝓤 𝓛.H 𝓜) (c : Clauses 𝓤 Fills) where
      -- the function requires what the call requires, and ensures for the text what the call ensures
      abbrev passed_on : Clauses 𝓤 Lends
      passed_on κs a = let at = c κs (a.0, (a.1.0, (up, tt))) in record {
        ghost = at.ghost;
        requires = at.requires;
        ensures = λ g r e. at.ensures g (record { text = r }) (e.0, (e.1.0, (up, tt)));
      }

      -- if the call meets its contract, so does the function
      pub passes_on : (self fills : Callee)
          → Closed 𝓤 𝓛.H (tables 𝓤 𝓛.H 𝓜 𝓡 𝓡.env).C (tables 𝓤 𝓛.H 𝓜 𝓡 𝓡.env).Λ self (format_code fills)
          → Meets 𝓛 Fills.signature (𝓡.run (𝓡.env fills)) (closing 𝓛 Fills c)
          → Meets 𝓛 Lends.signature (𝓡.run (𝓡.env self)) (closing 𝓛 Lends passed_on)
      passes_on self fills unfolded fills_met =
          let 𝓣 = tables 𝓤 𝓛.H 𝓜 𝓡 𝓡.env in
          let hs : Stays Lends.signature.params Lends.kept = (stays receiver no, (stays I.slot yes, tt)) in
          proved 𝓛 Lends hs passed_on 𝓜 𝓡 (goes 𝓛 receiver no, (goes 𝓛 I.slot yes, tt)) self (format_code fills) unfolded
          (λ κs. (mut_vals, ((λ x. I.val κs x ∷ []), tt))) (λ κs. (mut_Tells (named 0) κs.0 BufferType, (I.reports κs, tt)))
          (λ κs qs bounds a g are.
          let loan = named_lft 5 0 tt κs in let L = lent.the_type loan in let laws = lent_laws.the_laws loan in
          let Filled = lent.the_row loan in let Text = (StrRefOf {n = 5} (0 ∷ []) tt).row κs in
          let vs0 = mut_vals a.0 in let vs1 = I.val κs a.1.0 ∷ [] in
          let G = triple_of 𝓛 Fills.signature (closing 𝓛 Fills c) in
          let z : G.Ghost = ((κs, qs, bounds, (a.0, (a.1.0, (up, tt))), (vs0, (vs1, (bool_vals up, tt)))), g) in
          let at = c κs z.0.3 in
          let tokens = raw (alive 𝓛 Lends.signature κs qs) in
          qed 𝓛 ((tokens ⊛ ‵ ((receiver.row κs).own_val a.0 vs0) ⊛ ‵ ((I.slot.row κs).own_val a.1.0 vs1) ⊛ ‵ ftrue)
          ∷ raw (at.requires g) ∷ []) ∵
          split ! $ move ! (1 ∷ []) $ split ! $ move ! (1 ∷ []) $ split ! $ move ! (1 ∷ []) $
          owned ! bool _ (bool_Makes 𝓛) up (bool_vals up) refl $ join ! $
          move ! (1 ∷ 0 ∷ []) $ join ! $ move ! (1 ∷ 0 ∷ []) $ join ! $ move ! (1 ∷ 0 ∷ []) $ join ! $
          use2 𝓛 (raw (G.pre z)) (id⊢ 𝓤 _) $
          enter ! _ _ _ _ _ $ alloc_all ! (λ l. pass_all ! refl ((tt, tt), (I.typed κs a.1.0 are.1.0, tt)) $
          sets ! (addr ! (through ! refl (stop !))) refl (tt, tt) $
          calls_at ! (framed 𝓤 𝓛.H 𝓜 𝓣) G fills_met z
          (and_then ! (get ! refl) (and_then ! (get ! refl) (and_then ! (flag_lit up !) (no_more !)))) (λ v.
          use1 𝓛 (later (some (λ (d : Lent). (tokens ⊛ ‵ (Filled.own_val d (v ∷ []))) ⊛
          some (λ (ws : Lasts Fills κs z.0.3).
          ‵ (lasts Fills κs z.0.3 ws) ⊛ raw (at.ensures g d (at_exit Fills κs z.0.3 ws)))))) (id⊢ 𝓤 _) $
          await ! tt $ pick ! (λ d. split ! $ split ! $ move ! (2 ∷ []) $ pick ! (λ ws. split ! $
          -- [what remains of the parameters; what is ensured; the tokens; the struct; the locals]
          fsplit ! $ move ! (1 ∷ []) $ fsplit ! $ move ! (1 ∷ []) $ drop ! $ nothing ! $ move ! (1 ∷ 0 ∷ []) $ fjoin ! $
          move ! (1 ∷ 0 ∷ []) $ fjoin ! $
          move ! (3 ∷ []) $ peeks ! Filled (Is Filled) (shows 𝓛 Filled) d (v ∷ []) (λ repr.
          let typed = (((str-laws loan).lawful 𝓛).typed d.text _ (owed L laws d _ repr).0).0 in
          lands_as ! (ap only (tells L laws d _ repr)) refl (tt, (typed.1, tt)) $
          sets ! (of_opd ! (get_in ! (fld ! refl (stop !)) (sub ! 0 refl (whole !)))) refl typed $
          use1 𝓛 (‵ (Text.own_val d.text _) ⊛ ‵ ftrue)
          (takes 𝓛 (shape L) (spells L.parts laws) (tellss L.parts laws) (d.text, tt) (v ∷ [])) $
          split ! $ move ! (1 ∷ []) $ drop ! $
          returns ! (look_at ! 0 refl) $ free_all ! refl $
          -- [the text; what remains of the parameters; what is ensured; the tokens]
          suffices ! _
          (ends_at 𝓛 Lends hs passed_on ((κs, qs, bounds, a, (vs0, (vs1, tt))), g) _ d.text (ws.0, (ws.1.0, tt))
          (tt, (tt, tt))) $
          move ! (1 ∷ 0 ∷ []) $ join ! $ move ! (2 ∷ 0 ∷ []) $ join ! $ done !))))))
