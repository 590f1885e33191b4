use Rattle.std.proofs.Common.{◌≡◌, take}
use Rattle.rustsec_advisory.specs.LintErrors.{crate_name_of}
use Rattle.rustsec_advisory.proofs.lint_values.crate_name.Given as goal

abbrev pub invariant-loop-byte : goal.invariant-loop-byte
invariant-loop-byte l = l.bytes.items ≡ crate_name_of (take l.byte-index l.byte-items)
