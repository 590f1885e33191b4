use Rattle.std.proofs.Common.{◌≡◌, length, take}
use Rattle.rustsec_commands.specs.input.Input.{input_of, says}
use Rattle.rustsec_commands.proofs.lemmas.input.Turns.{NoneBefore}
use Rattle.rustsec_commands.proofs.input.parse.Given as goal

-- no line so far is malformed, and `all` has the requirements and versions of the lines so far
abbrev pub invariant-loop-place : goal.invariant-loop-place
invariant-loop-place l = record {
  none_yet : NoneBefore (says l.kind l.input) (length l.yielded);
  so_far : l.all ≡ input_of (take (length l.yielded) (says l.kind l.input));
}
