use Rattle.std.proofs.Common.{◌≡◌, ◌++◌, string_bytes, take}
use Rattle.rustsec_check_output.specs.CheckJson.{later_json}
use Rattle.rustsec_check_output.proofs.list_json.push_later.Given as goal

-- the elements so far are appended
abbrev pub invariant-loop-element : goal.invariant-loop-element
invariant-loop-element g l = string_bytes l.json ≡ string_bytes l.fn.json ++ later_json (g.P.Push.written l.way) (take l.element-index l.elements)
