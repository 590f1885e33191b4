-- What is kept by a test that each advisory passes is a database as it is opened.
use Rattle.std.proofs.Common.{◌≡◌, ◌∙◌, ℕ, List, [], ◌∷◌, ap, refl, subst, sym, true}
use Rattle.std.specs.List.{filter}
use Rattle.rustsec_advisory.specs.declared.advisory.Advisory.{Advisory}
use Rattle.rustsec_files.specs.Allowed.{Allowed}
use Rattle.rustsec_database.specs.Kept.{AreOpenedFor, KeptValue}
use Rattle.rustsec_database.specs.Opened.{AreOpened}

all_kept : (advisories : List Advisory) → filter (λ _. true) advisories ≡ advisories
all_kept [] = refl
all_kept (a ∷ more) = ap (λ rest. a ∷ rest) (all_kept more)

pub each_opened : (allowed : Allowed) (root : List ℕ) (k : KeptValue) (loaded : List Advisory) → loaded ≡ k.advisories
    → AreOpenedFor allowed root (λ _. true) k → AreOpened allowed root loaded
each_opened allowed root k loaded is (all, (opened, kept)) = subst (AreOpened allowed root) (sym (is ∙ (kept.advisories ∙ all_kept all))) opened
