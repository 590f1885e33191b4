use Rattle.std.proofs.Common.{map, option_map, take}
use Rattle.rustsec_advisory.specs.declared.advisory.Advisory.{Advisory}
use Rattle.rustsec_database.proofs.Latest.{IsLatest}
use Rattle.rustsec_check_output.proofs.dated.last_date.Given as goal

-- the latest date so far
abbrev pub invariant-loop-advisory : goal.invariant-loop-advisory
invariant-loop-advisory l =
    IsLatest (map (λ (a : Advisory). a.metadata.date) (take l.advisory-index l.advisories)) (option_map (λ d. d.now) l.latest)
