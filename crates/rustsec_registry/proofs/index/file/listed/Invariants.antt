use Rattle.std.proofs.Common.{◌≡◌, List, Option, length}
use denote.Shadow.{shadow}
use denote.Text.{Utf8}
use Rattle.rustsec_registry.specs.declared.lookup.IndexVersion.{IndexVersion}
use Rattle.rustsec_registry.specs.index.IndexFile.{Entries, versions_said}
use Rattle.rustsec_registry.proofs.index.file.listed.Given as goal

abbrev pub decreases-loop-rest : goal.decreases-loop-rest
decreases-loop-rest l = length l.rest

-- what is left is text; it is after the entries so far, which list the versions so far
abbrev pub invariant-loop-rest : goal.invariant-loop-rest
invariant-loop-rest l =
    shadow (Utf8 l.rest) × ((said : List (Option IndexVersion)) × Entries l.form l.name l.text said l.rest × (l.versions ≡ versions_said said))
