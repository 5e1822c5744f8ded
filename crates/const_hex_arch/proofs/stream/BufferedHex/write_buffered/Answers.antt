-- Proof of the open goal `returns`: the clauses of the contract hold at the return. `c` has the facts that are known
-- there: `c.F.ensures` is what the call of F ensures; `c.F.result` is its result; `c.F.new` is what it has changed;
-- `F-x` is a call whose result is named x. `g` has the type parameters and their traits' members. `search` is a proof
-- search.
use Rattle.std.proofs.Common.{rules, ap, ◌∙◌, None}
use Rattle.const_hex_arch.specs.{output_sink, sink_name}
use Rattle.const_hex_arch.proofs.lemmas.Streams.{Streams-from_writes, Streams-at, StreamsWhole-of}
use Rattle.const_hex_arch.proofs.stream.BufferedHex.write_buffered.Goals as goal

pub returns : goal.returns
returns g c =
    let step = g.S.Sink.step in
    let has_failed = g.S.Sink.has_failed in
    let inner = ap (λ s. s.0) c.new-output.ensures in
    let start = ap (λ o. output_sink o) inner ∙ c.new.ensures.sink in
    let r = Streams-from_writes step has_failed (λ _. None) (λ s. s.0) (λ s. s.1) c.new-output.result _
    c.encode_full.new.output c.into_output.result
    (ap (λ s. s.1) c.new-output.ensures) c.encode_full.ensures (rw (← c.into_output.ensures) at c.flush.ensures.run)
    (ap has_failed start ∙ c.requires) in
    let name = r.0 ∙ ap (λ o. sink_name o) inner in
    let streams = rw start at r.1 in
    let ended = Streams-at step has_failed _ _ _ streams in
    StreamsWhole-of step has_failed g.S.Sink.reported g.met.S.Sink.reports _ _ _ _ (search (rules, ended))
    (search rules)
