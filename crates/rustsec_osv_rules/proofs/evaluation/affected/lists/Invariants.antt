use Rattle.std.proofs.Common.{◌≡◌, false, take}
use Rattle.std.specs.List.{list_any}
use Rattle.rustsec_osv_rules.specs.evaluation.Document.{is_text}
use Rattle.rustsec_osv_rules.proofs.evaluation.affected.lists.Given as goal

-- none of the versions so far has the text
abbrev pub invariant-loop-version : goal.invariant-loop-version
invariant-loop-version l = list_any (is_text l.text) (take l.version-index l.texts) ≡ false
