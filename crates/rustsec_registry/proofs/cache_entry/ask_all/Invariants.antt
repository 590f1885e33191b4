use Rattle.std.proofs.Common.{map, take}
use Rattle.rustsec_registry.specs.Lookups.{AreAnswers}
use Rattle.rustsec_registry.specs.Yanked.{AreKept, Grows}
use Rattle.rustsec_registry.proofs.cache_entry.ask_all.Given as goal

-- the packages so far have answers, and no others were looked up
abbrev pub invariant-loop-package : goal.invariant-loop-package
invariant-loop-package g l = record {
  grown : Grows (map (λ p. p.now) (take l.package-index l.packages)) l.fn.kept l.kept;
  asked : AreKept (map (λ p. p.now) (take l.package-index l.packages)) l.kept;
  given : AreAnswers (g.I.Lookup.answers l.index) l.fn.kept → AreAnswers (g.I.Lookup.answers l.index) l.kept;
}
