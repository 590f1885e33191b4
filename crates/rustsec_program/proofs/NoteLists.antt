-- The notes on one more package, and on one more entry of a package.
use Rattle.std.proofs.Common.{◌≡◌, ◌∙◌, ◌+◌, ◌<◌, ◌++◌, ℕ, List, [], ◌∷◌, ap, append-nil, append_assoc, arith, get_or, length, map, sym, take}
use Rattle.std.specs.List.{enumerate_from, flat_map}
use Rattle.std.proofs.lemmas.Grind.{flat_map-append}
use Rattle.std.proofs.lemmas.List.{length-take-le, map_more, take_more}
use Rattle.rustsec_lock.specs.Package.{PackageValue}
use Rattle.rustsec_check.proofs.Packages.{enumerate-more}
use Rattle.rustsec_program.specs.Notes.{dependency_note, dependency_notes, dependency_notes_at}

pub notes-more : (entries : List (List (List ℕ))) (packages : List PackageValue) (i : ℕ) (p : PackageValue) → i < length packages → p ≡ get_or packages i p
    → dependency_notes (take (i + 1) packages) entries ≡ dependency_notes (take i packages) entries ++ dependency_notes_at entries (i, p)
notes-more entries packages i p low is =
    ap (λ ps. flat_map (dependency_notes_at entries) (enumerate_from 0 ps)) (take_more packages i p low ∙ ap (λ x. take i packages ++ x ∷ []) (sym is))
    ∙ (ap (flat_map (dependency_notes_at entries)) (enumerate-more 0 i (take i packages) p (omega (arith, length-take-le i packages (omega (arith, low)))))
    ∙ (flat_map-append (dependency_notes_at entries) (enumerate_from 0 (take i packages)) ((i, p) ∷ [])
    ∙ ap (λ ns. dependency_notes (take i packages) entries ++ ns) (append-nil (dependency_notes_at entries (i, p)))))

pub entry-more : (p : PackageValue) (entries : List (List ℕ)) (i : ℕ) (entry note : List ℕ) (base old new : List (List ℕ)) → i < length entries
    → entry ≡ get_or entries i entry → old ≡ base ++ map (dependency_note p) (take i entries) → note ≡ dependency_note p entry → new ≡ old ++ note ∷ []
    → new ≡ base ++ map (dependency_note p) (take (i + 1) entries)
entry-more p entries i entry note base old new low is before made more =
    more ∙ (ap (λ ns. ns ++ note ∷ []) before ∙ (append_assoc base (map (dependency_note p) (take i entries)) (note ∷ [])
    ∙ ap (λ ns. base ++ ns)
    (ap (λ n. map (dependency_note p) (take i entries) ++ n ∷ []) (made ∙ ap (dependency_note p) is) ∙ sym (map_more (dependency_note p) entries i entry low))))
