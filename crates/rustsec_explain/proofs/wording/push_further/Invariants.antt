use Rattle.std.proofs.Common.{◌≡◌, ◌++◌, string_bytes, take}
use Rattle.rustsec_explain.specs.Wording.{further_names}
use Rattle.rustsec_explain.proofs.wording.push_further.Given as goal

-- the names so far
abbrev pub invariant-loop-value : goal.invariant-loop-value
invariant-loop-value g l = string_bytes l.text ≡ string_bytes l.fn.text ++ further_names g.T.ClosedEnum.name_of (take l.value-index l.values)
