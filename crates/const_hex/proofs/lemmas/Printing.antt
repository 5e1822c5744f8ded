-- Texts that are written to a formatter in pieces.
--
-- `s` and `t` are the states of a sink over the formatter, before and after, `m` is one in between, and `ps` are the
-- pieces. `took` is what a write of text does to the formatter's destination. In a proof, the letters that its
-- statement does not name are the hypotheses, in order.
use Rattle.std.proofs.Common.{◌≡◌, ℕ, Bool, false, List, [], ◌∷◌, refl, subst, ◌∙◌, Result}
use Rattle.std.specs.List.{concat}
use Rattle.std.specs.Fmt.{WritesOnOk, WritesStyledOnOk, formatter_spec, spec_alternate}
use Rattle.std.specs.declared.fmt.Error.{Error}
use Rattle.std.specs.declared.fmt.Formatter.{Formatter}
use Rattle.std.proofs.Output.{has_written_styled_nil, has_written_styled_append}
use Rattle.const_hex.specs.Prelude.{Offers, Streams, hex_text, full_text, FormatterStep}
use Rattle.const_hex_arch.proofs.lemmas.Streams.{Offers-accepting, Streams-all}
use Rattle.const_hex.specs.declared.formatting.sink.FormatterSink.{FormatterSink}

module _ {W : Type 0} (took : W → List ℕ → W → Type 0) where
  -- if nothing failed, pieces are written as their concatenation would be
  offered_text : (s : FormatterSink W) (ps : List (List ℕ)) (t : FormatterSink W) → t.failed ≡ false
      → Offers (FormatterStep took) (λ x. x.failed) s ps t → FormatterStep took s (concat ps) t
  offered_text s [] t e h =
      subst (λ x. FormatterStep took s [] x) h
      (record { same_formatter = refl; writes = λ _ f. has_written_styled_nil took _ f })
  offered_text s (p ∷ ps) t e (o, (m, h, k)) =
      let rest = offered_text m ps t e k in record {
        same_formatter = rest.same_formatter ∙ h.same_formatter;
        writes = λ _ f.
            let x = h.writes (Offers-accepting (FormatterStep took) (λ x. x.failed) m ps t e k) f in
            has_written_styled_append took _ p _ (concat ps) _ x (rest.writes e x.flush);
      }

  -- the same for a stream
  pub printed_stream : (s : FormatterSink W) (text : List ℕ) (t : FormatterSink W) → t.failed ≡ false
      → Streams (FormatterStep took) (λ x. x.failed) s text t → FormatterStep took s text t
  printed_stream s text t e h =
      rw h.cut.whole at (offered_text s h.pieces t e (Streams-all (FormatterStep took) (λ x. x.failed) s text t e h))

  -- a formatter without options writes no prefix
  pub plain_from_styled : (f : Formatter W) (r : Result (Unit {0}) Error) (up : Bool) (bs : List ℕ) (g : Formatter W)
      → WritesStyledOnOk took f r (full_text (spec_alternate (formatter_spec f)) up bs) g
      → WritesOnOk took f r (hex_text up bs) g
  plain_from_styled f r up bs g h p ok =
      let x = h p.flush ok in
      record { wrote = rw p.bare.alternate at x.wrote; plain = record { bare = rw x.spec p.bare; flush = x.flush } }
