use Rattle.std.proofs.Common.{◌≡◌, ◌++◌, string_bytes, take}
use Rattle.rustsec_report.specs.ReportText.{later_texts}
use Rattle.rustsec_report.proofs.report_json.push_later.Given as goal

-- the parts so far are appended
abbrev pub invariant-loop-part : goal.invariant-loop-part
invariant-loop-part g l = string_bytes l.json ≡ string_bytes l.fn.json ++ later_texts g.T.Part.tree (take l.part-index l.parts)
