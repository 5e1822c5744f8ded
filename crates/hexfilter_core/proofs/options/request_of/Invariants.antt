-- The invariant of the loop `loop-index`. `l` has the live variables, `l.fn` the function's arguments.
use Rattle.std.proofs.Common.{◌≡◌, drop, map, string_bytes}
use Rattle.hexfilter_core.specs.Options.{request_for, with_arguments}
use Rattle.hexfilter_core.proofs.options.request_of.Given as goal

abbrev pub invariant-loop-index : goal.invariant-loop-index
invariant-loop-index l =
    with_arguments l.options l.index (drop l.index (map string_bytes l.arguments)) ≡ request_for
    (map string_bytes l.fn.arguments)
