-- Symbolic execution (see `Walks`) of a function that fills a borrowed slice by one call if the text fits, and shares
-- it with a second call, which returns it as text, or an error. One walk serves uppercase and lowercase.
--
-- The modules `encodes`, `fills` and `as_text` are the contracts of the function, of the first call and of the
-- second. `G` and `H` are those of the calls as triples, and `zg` and `zh` their arguments. `x` is the input, `o` the
-- output, `s` the output after the first call, and `m` the length of the text.
--
-- A list in brackets is the symbolic state: the resources that are held there, in order. `𝓤` is the resource algebra of
-- the separation logic `𝓛`, `𝓜` is the memory model, and `𝓡` is the running program. `κs` are the lifetimes, `qs` the
-- shares of their tokens, `a` the arguments, `are` facts about them, and `v` is a machine value. Each line that ends in
-- `$` applies a rule to the symbolic state. `qed 𝓛 S ∵ rules` proves the goal from the state S by these rules. A
-- resource is `‵ F` for a formula, or `raw P` for any assertion; `⊛` is the separating conjunction.
--
-- The steps: `enter` begins the body; `alloc_all` allocates the locals; `pass_all` stores the arguments in them;
-- `sets` executes an assignment; `calls_at` executes a call by its contract; `lands_as` stores its result; `returns`
-- reads the result; `free_all` frees the locals; `suffices` states what is left to prove; `move` permutes the
-- resources; `split` and `join` take apart and build a separating conjunction; `drop` discards a resource; `use0`,
-- `use1` and `use2` apply an entailment to so many resources; `pick` opens an existential; `await` removes an update
-- of ghost state; `heard` extracts a pure fact; `peeks` reads how a value is represented; `owned` adds a value by its
-- representation; `rewrite` rewrites by an equation; `nothing` adds an empty resource; `frame` proves the first part
-- of the goal; `group` joins several parts; `done` ends the proof.
use Rattle.std.proofs.Common.{subst, IsAscii, ◌≢◌}
use Rattle.std.proofs.result.Result.TheLaws.{the_row_laws as result_laws}
use base.Fml.{Lft, Share}
use base.Logic.{ent, ex_i}
use base.Stored.{coded_list}
use Rattle.const_hex_arch.proofs.lemmas.Walks.{◌≡◌, ℕ, ◌*◌, Bool, List, [], ◌∷◌, length, refl, ap, ◌∙◌, Bor, MutBor, ◌↔◌, IsOk, IfOk, Ok, Err, IfErr, MatchResult, Result, proved, sep, id⊢, emp, GName, ftrue, flft, fres, Fn, Callee, local, value_local, ty_ref, ty_int, imm, mut, erased, field, deref, place, copy, addr_of, aggregate, assign, call, seq, named, w8, Val, fact, fact_i, Running, tables, Meets, ‵, raw, ◌⊛◌, some, later, ◌$◌, ◌∵◌, !, qed, done, move, drop, use0, use1, use2, split, join, pick, await, rewrite, suffices, frame, group, enter, addr, stop, fld, hop, from, no_more, and_then, returns, agg, whole, sub, alloc_all, pass_all, free_all, look_at, look_in_at, get, get_in, sets, lands_as, u8, bool, SliceRefOf, yes, no, Is, shows, bool_vals, bool_Makes, nothing, owned, heard, peeks, only, calls_at, Clauses, closing, lasts, Lasts, triple_of, Stays, stay_dropped, Goes-dropped, Goes-spent_slice, ends_at, framed, Model, Closed, Ura, Logic, sem, plain}
use mir.Syntax.{Lifetime, return as end}
use types.Kit.{split3, fsplit, fjoin, feq_i, updating, now}
use borrow.Rule.Slice.Handed.{sl_Share}
use borrow.Table.Owned.{ShrSlice as SharedSlice}
use denote.Copied.{uint_Copied}
use denote.Follow.{such_by, follows_by}
use denote.FollowSlice.{finally-res}
use denote.Param.{layout}
use denote.Param.Laws.{of_field}
use denote.Param.Shared.{copy_shared}
use denote.Plain.{uint_row_laws}
use denote.Ref.{as_bor}
use denote.Signature.{named_lft}
use denote.Slice.{slice_ty, finally, MutSlice, ShrSlice, mut_slice_vals, mut_slice_Tells, shr_slice_vals, shr_slice_Tells, shr_slice_copy}
use denote.Text.{str-field, str-laws, str-copy}
use Rattle.std.specs.Borrow.{Array, full_share}
use Rattle.std.specs.Io.BufRead.{Rests}
use Rattle.const_hex.specs.Prelude.{hex_text, InvalidStringLength}
use Rattle.const_hex.specs.contracts.error.FromHexError as hex_error
use Rattle.const_hex.specs.contracts.codec.encoders.encode_to_str as encodes
use Rattle.const_hex.specs.contracts.codec.encoders.encode_into as fills
use Rattle.const_hex.specs.contracts.codec.encoders.encoded_text as as_text
use Rattle.const_hex.proofs.error.FromHexError.TheLaws as hex_error_laws
use Rattle.const_hex.proofs.lemmas.Walks.{flag, flag_lit}

-- what the slice holds at the end, and what the result borrows of it
ends : {A : Type 0} {m k : ℕ} {text old new : List ℕ} (r : Result (Bor (List ℕ)) A) → IsOk r ↔ (k ≡ m)
    → IfOk r (λ w. w.now ≡ new)
    → ((k ≡ m) → new ≡ text) → ((k ≢ m) → new ≡ old)
    → IfOk r (λ w. w.now ≡ text) × MatchResult r (λ _. new ≡ text) (λ _. new ≡ old)
ends (Ok w) fits lent filled unchanged = let e = filled (fits.0 refl) in (lent ∙ e, e)
ends (Err e) fits lent filled unchanged = (tt, unchanged (λ k. cc (fits.1 k)))

-- the MIR of the function. Its locals: 0 is the result, 1 the input, 2 the output, 3 what the first call returns; 4
-- and 5 are the output as it is lent to the first call, and 6 and 7 as it is shared with the second
abbrev encode_to_str_code : Bool → Fn
encode_to_str_code up = record {
  lifetimes = 2;
  outlives = [];
  ty_params = [];
  givens = 0;
  params = 2;
  locals = local (layout (encodes.signature.result.row ([], ([], tt)))) value_local
      ∷ local (slice_ty (ty_ref (named 0) imm (ty_int w8))) value_local
      ∷ local (slice_ty (ty_ref (named 1) mut (ty_int w8))) value_local
      ∷ local (slice_ty (ty_ref erased mut (ty_int w8))) value_local
      ∷ local (ty_ref erased mut (ty_int w8)) value_local
      ∷ local (slice_ty (ty_ref erased mut (ty_int w8))) value_local
      ∷ local (ty_ref erased imm (ty_int w8)) value_local
      ∷ local (slice_ty (ty_ref erased imm (ty_int w8))) value_local
      ∷ [];
  body = seq (assign (place 4 []) (addr_of (place 2 (field 0 ∷ deref (ty_int w8) ∷ []))))
      (seq (assign (place 5 []) (aggregate (copy (place 4 []) ∷ copy (place 2 (field 1 ∷ [])) ∷ [])))
      (seq (call fills.Key.name (copy (place 1 []) ∷ flag up ∷ copy (place 5 []) ∷ []) (place 3 []))
      (seq (assign (place 6 []) (addr_of (place 3 (field 0 ∷ deref (ty_int w8) ∷ []))))
      (seq (assign (place 7 []) (aggregate (copy (place 6 []) ∷ copy (place 3 (field 1 ∷ [])) ∷ [])))
      (seq (call as_text.Key.name (copy (place 1 []) ∷ copy (place 7 []) ∷ []) (place 0 []))
      end)))));
}

module _ {M : Type 1} (𝓤 : Ura M) (𝓛 : Logic 𝓤) (𝓜 : Model 𝓤 𝓛.H) (𝓡 : Running 𝓤 𝓛.H 𝓜) where
  open 𝓛 use {H, A}

  -- once its borrow has ended, a slice holds its last value
  Rests-of : (s : MutBor (List ℕ)) (P : List ℕ → Type 0) (bs : List ℕ) → P bs
      → ent 𝓤 (A.res s.ghost_name ((coded_list u8.coded).code bs)) (sem 𝓛 (Rests (Array u8 0) s P))
  unfolding such_by follows_by
  Rests-of s P bs h =
      ex_i 𝓤 (λ (y : (p : (List ℕ → List ℕ) × List ℕ) × ((w : List ℕ) → Unit {0}) × P p.1).
      A.res s.ghost_name ((coded_list u8.coded).code y.0.1))
      (((λ w. w), bs), (λ w. tt), h)

  -- a slice that is shared for the rest of its borrow holds what it held
  shared : (ℓ : Lifetime) (κ : Lft) (q : Share) (s : MutBor (List ℕ))
      → ent 𝓤 (sep 𝓤 (sem 𝓛 ((MutSlice ℓ κ u8).own_val s (mut_slice_vals s))) (A.lft κ q))
      (H.⇛ (sep 𝓤 (sem 𝓛 ((ShrSlice ℓ κ u8).own_val (as_bor s) (mut_slice_vals s)))
      (sep 𝓤 (A.res s.ghost_name ((coded_list u8.coded).code s.now)) (A.lft κ q))))
  shared ℓ κ q s =
      qed 𝓛 (‵ ((MutSlice ℓ κ u8).own_val s (mut_slice_vals s)) ∷ ‵ (flft κ q) ∷ []) ∵ updating ! $ fsplit ! $ fsplit !
      $ drop ! $ fjoin ! $
      use2 𝓛 (later (‵ ((SharedSlice ℓ κ u8).own_val (as_bor s)) ⊛ ‵ (finally u8 s.ghost_name s.now) ⊛ ‵ (flft κ q)))
      (sl_Share 𝓛 u8 s.ref_ptr.0 s.ref_ptr.1 s.ghost_name s.now (uint_row_laws w8) κ q
      ((uint_Copied 𝓛 w8).shares full_share κ)) $
      await ! tt $ split3 ! $ now ! $ fsplit ! $ feq_i ! (List Val) (mut_slice_vals s) (mut_slice_vals s) refl $ fjoin !
      $ fjoin ! $
      move ! (1 ∷ []) $ use1 𝓛 (‵ (fres s.ghost_name ((coded_list u8.coded).code s.now)))
      (finally-res 𝓛 u8 s.ghost_name s.now) $
      move ! (1 ∷ 0 ∷ 2 ∷ []) $ done !

  -- the contract of the function, in separation logic
  abbrev encode_to_str_clauses : Bool → Clauses 𝓤 encodes.ended
  encode_to_str_clauses up κs a = record {
    ghost = Unit {0};
    requires = λ ghost. emp 𝓤;
    ensures = λ ghost r at. sep 𝓤 (fact 𝓤 (IsOk r ↔ (length a.1.0.now ≡ 2 * length a.0.now)))
        (sep 𝓤 (fact 𝓤 (IfOk r (λ text. text.now ≡ hex_text up a.0.now)))
        (sep 𝓤 (fact 𝓤 (IfErr r (λ x. x ≡ InvalidStringLength)))
        (sem 𝓛 (Rests (Array u8 0) a.1.0
        (λ new. MatchResult r (λ _. new ≡ hex_text up a.0.now) (λ _. new ≡ a.1.0.now))))));
  }

  -- if both calls meet their contracts, so does the function
  pub text_or_error : (up : Bool) (self : Callee)
      → Closed 𝓤 𝓛.H (tables 𝓤 𝓛.H 𝓜 𝓡 𝓡.env).C (tables 𝓤 𝓛.H 𝓜 𝓡 𝓡.env).Λ self (encode_to_str_code up)
      → Meets 𝓛 fills.signature (𝓡.run (𝓡.env fills.Key.name)) (fills.spec 𝓛 𝓜.mem 𝓡.returns)
      → Meets 𝓛 as_text.signature (𝓡.run (𝓡.env as_text.Key.name)) (as_text.spec 𝓛 𝓜.mem 𝓡.returns)
      → Meets 𝓛 encodes.signature (𝓡.run (𝓡.env self)) (closing 𝓛 encodes.ended (encode_to_str_clauses up))
  text_or_error up self unfolded fills_met as_text_met =
      let c = encode_to_str_clauses up in
      let 𝓣 = tables 𝓤 𝓛.H 𝓜 𝓡 𝓡.env in
      let hs : Stays encodes.signature.params encodes.ended.kept = (stay_dropped _ yes, (stay_dropped _ no, tt)) in
      proved 𝓛 encodes.ended hs c 𝓜 𝓡 (
        Goes-dropped 𝓛 2 (SliceRefOf (0 ∷ []) tt (plain (λ κs. u8)) (λ κs. tt)) yes (λ κs x w. refl),
        (Goes-spent_slice 𝓛 2 (1 ∷ []) tt (plain (λ κs. u8)), tt),
      )
      self (encode_to_str_code up) unfolded
      (λ κs. (shr_slice_vals, (mut_slice_vals, tt)))
      (λ κs. (shr_slice_Tells (named 0) κs.0 u8, (mut_slice_Tells (named 1) κs.1.0 u8, tt)))
      (λ κs qs bounds a ghost are.
      let κ = κs.1.0 in let q = qs.1.0 in let loan = named_lft 2 1 tt κs in
      let x = a.0 in let o = a.1.0 in let m : ℕ = 2 * length x.now in
      let In = (ShrSlice (named 0) κs.0 u8).own_val x (shr_slice_vals x) in
      let Out = MutSlice (named 1) κ u8 in let Bytes = ShrSlice (named 1) κ u8 in
      let Returned = encodes.signature.result.row κs in
      let tokens = ‵ (flft κs.0 qs.0) ⊛ ‵ (flft κ q) ⊛ ‵ ftrue in
      let G = triple_of 𝓛 fills.signature (fills.spec 𝓛 𝓜.mem 𝓡.returns) in
      let H = triple_of 𝓛 as_text.signature (as_text.spec 𝓛 𝓜.mem 𝓡.returns) in
      let zg : G.Ghost =
      ((κs, qs, tt, (x, (up, (o, tt))), (shr_slice_vals x, (bool_vals up, (mut_slice_vals o, tt)))), tt) in
      qed 𝓛 ((tokens ⊛ ‵ In ⊛ ‵ (Out.own_val o (mut_slice_vals o)) ⊛ ‵ ftrue) ∷ ‵ ftrue ∷ []) ∵
      split ! $ move ! (1 ∷ []) $ split ! $ use1 𝓛 (‵ In ⊛ ‵ In)
      ((shr_slice_copy 𝓛 (named 0) κs.0 u8 (uint_row_laws w8)).twice x (shr_slice_vals x)) $ split ! $
      -- [the input; the input; the output; the tokens; nothing]
      move ! (2 ∷ []) $ owned ! bool _ (bool_Makes 𝓛) up (bool_vals up) refl $ join ! $ move ! (1 ∷ 0 ∷ []) $ join ! $
      move ! (2 ∷ 0 ∷ []) $ join ! $ move ! (0 ∷ 2 ∷ []) $ use2 𝓛 (raw (G.pre zg)) (id⊢ 𝓤 _) $
      enter ! _ _ _ _ _ $
      alloc_all ! (λ l. pass_all ! refl (
        (tt, (tt, (record { fits = are.0.0.1.0 }, tt))),
        ((tt, (tt, (record { fits = are.1.0.0.1.0 }, tt))), tt),
      ) $
      sets ! (addr ! (from ! (fld ! refl (hop ! (look_in_at ! 2 (sub ! 0 refl (whole !))) (stop !))))) refl (tt, tt) $
      sets ! (agg !
      (and_then ! (get ! refl) (and_then ! (get_in ! (fld ! refl (stop !)) (sub ! 1 refl (whole !))) (no_more !)))) refl
      (tt, (tt, (record { fits = are.1.0.0.1.0 }, tt))) $
      calls_at ! (framed 𝓤 𝓛.H 𝓜 𝓣) G fills_met zg
      (and_then ! (get ! refl) (and_then ! (flag_lit up !) (and_then ! (get ! refl) (no_more !)))) (λ v.
      use1 𝓛 (later (some (λ (s : MutBor (List ℕ)). (tokens ⊛ ‵ (Out.own_val s (v ∷ []))) ⊛
      some (λ (ws : Lasts fills.ended κs zg.0.3). ‵ (lasts fills.ended κs zg.0.3 ws) ⊛
      (raw (fact 𝓤 (s.ghost_name ≡ o.ghost_name)) ⊛ raw (fact 𝓤 (length s.now ≡ length o.now)) ⊛ raw
      (fact 𝓤 ((length s.now ≡ m) → s.now ≡ hex_text up x.now))
      ⊛ raw (fact 𝓤 ((length s.now ≡ m) → IsAscii s.now)) ⊛ raw (fact 𝓤 ((length s.now ≢ m) → s.now ≡ o.now)))))))
      (id⊢ 𝓤 _) $
      await ! tt $ pick !
      (λ s. split ! $ split ! $ move ! (2 ∷ []) $ pick !
      (λ ws. split ! $ drop ! $ split ! $ heard ! _ (λ same. split ! $ heard ! _ (λ long.
      split ! $ heard ! _ (λ filled. split ! $ heard ! _ (λ ascii. heard ! _ (λ unchanged.
      -- [the tokens; the slice; the input; the locals]
      move ! (1 ∷ []) $ peeks ! Out (Is Out) (shows 𝓛 Out) s (v ∷ []) (λ repr.
      rewrite ! 0 (λ (vs : List Val). ‵ (Out.own_val s vs)) repr.0.0 refl $
      lands_as ! (ap only repr.0.0) refl (tt, (tt, (record { fits = repr.0.1.0 }, tt))) $
      sets ! (addr ! (from ! (fld ! refl (hop ! (look_in_at ! 3 (sub ! 0 refl (whole !))) (stop !))))) refl (tt, tt) $
      sets ! (agg !
      (and_then ! (get ! refl) (and_then ! (get_in ! (fld ! refl (stop !)) (sub ! 1 refl (whole !))) (no_more !)))) refl
      (tt, (tt, (record { fits = repr.0.1.0 }, tt))) $
      move ! (1 ∷ []) $ split ! $ move ! (1 ∷ []) $ split ! $ move ! (3 ∷ 0 ∷ []) $
      use2 𝓛 (later
      (‵ (Bytes.own_val (as_bor s) (mut_slice_vals s)) ⊛ ‵ (fres s.ghost_name ((coded_list u8.coded).code s.now)) ⊛ ‵
      (flft κ q)))
      (shared (named 1) κ q s) $
      await ! tt $ split ! $ move ! (1 ∷ []) $ split ! $
      rewrite ! 0 (λ (name : GName). ‵ (fres name ((coded_list u8.coded).code s.now))) same refl $
      -- [how the slice ends; its token; its bytes; no more tokens; the input's token; the input; the locals]
      move ! (1 ∷ 3 ∷ []) $ join ! $ move ! (3 ∷ 0 ∷ []) $ join ! $ nothing ! $ move ! (3 ∷ 0 ∷ []) $ join ! $ move !
      (3 ∷ 0 ∷ []) $ join ! $ move ! (1 ∷ 0 ∷ []) $ join ! $
      let zh : H.Ghost = ((κs, qs, tt, (x, (as_bor s, tt)), (shr_slice_vals x, (mut_slice_vals s, tt))), tt) in
      use0 𝓛 (raw (fact 𝓤 ((length s.now ≡ m) → IsAscii s.now))) (fact_i 𝓤 _ _ ascii) $ move ! (1 ∷ 0 ∷ []) $
      use2 𝓛 (raw (H.pre zh)) (id⊢ 𝓤 _) $
      calls_at ! (framed 𝓤 𝓛.H 𝓜 𝓣) H as_text_met zh
      (and_then ! (get ! refl) (and_then ! (get ! refl) (no_more !))) (λ v'.
      use1 𝓛 (later (some (λ (r : Returned.Denot). (tokens ⊛ ‵ (Returned.own_val r (v' ∷ []))) ⊛
      some (λ (ws' : Lasts as_text.ended κs zh.0.3). ‵ (lasts as_text.ended κs zh.0.3 ws') ⊛
      (raw (fact 𝓤 (IsOk r ↔ (length s.now ≡ m))) ⊛ raw (fact 𝓤 (IfOk r (λ w. w.now ≡ s.now))) ⊛ raw
      (fact 𝓤 (IfErr r (λ x. x ≡ InvalidStringLength)))))))) (id⊢ 𝓤 _) $
      await ! tt $ pick !
      (λ r. split ! $ split ! $ move ! (2 ∷ []) $ pick !
      (λ ws'. split ! $ drop ! $ split ! $ heard ! _ (λ fits. split ! $ heard ! _ (λ lent. heard ! _ (λ invalid_length.
      -- [the tokens; the result; how the slice ends; the locals]
      move ! (1 ∷ []) $ peeks ! Returned (Is Returned) (shows 𝓛 Returned) r (v' ∷ []) (λ repr'.
      let text_laws = of_field (str-field loan) (str-laws loan) refl (copy_shared (str-field loan) (str-copy loan)) in
      let typed = (((result_laws (str-field loan).row hex_error.the_row text_laws hex_error_laws.the_row_laws).lawful
      𝓛).typed r _ repr').0 in
      lands_as ! refl refl typed $
      returns ! (look_at ! 0 refl) $ free_all ! refl $
      suffices ! _
      (ends_at 𝓛 encodes.ended hs c ((κs, qs, bounds, a, (shr_slice_vals x, (mut_slice_vals o, tt))), tt) v' r (tt, (tt, tt))
      (tt, (tt, tt))) $
      let ended = ends r fits lent filled unchanged in
      move ! (2 ∷ []) $ use1 𝓛
      (‵ (Rests (Array u8 0) o (λ new. MatchResult r (λ _. new ≡ hex_text up x.now) (λ _. new ≡ o.now))))
      (Rests-of o (λ new. MatchResult r (λ _. new ≡ hex_text up x.now) (λ _. new ≡ o.now)) s.now ended.1) $
      -- [what follows the loan; the result; the tokens]
      move ! (1 ∷ 0 ∷ []) $ nothing ! $ nothing ! $ join ! $ nothing ! $ join ! $ move ! (3 ∷ 0 ∷ 1 ∷ []) $ group ! 3 $
      frame ! $
      use0 𝓛 (raw (fact 𝓤 (IsOk r ↔ (length o.now ≡ m)))) (fact_i 𝓤 _ _ (subst (λ k. IsOk r ↔ (k ≡ m)) long fits)) $
      frame ! $
      use0 𝓛 (raw (fact 𝓤 (IfOk r (λ w. w.now ≡ hex_text up x.now)))) (fact_i 𝓤 _ _ ended.0) $ frame ! $
      use0 𝓛 (raw (fact 𝓤 (IfErr r (λ x. x ≡ InvalidStringLength)))) (fact_i 𝓤 _ _ invalid_length) $ frame ! $
      done !))))))))))))))))))
