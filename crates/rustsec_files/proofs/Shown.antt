-- The names that a package's folder shows, from the names of its entries alone.
use Rattle.std.proofs.Common.{◌≡◌, ◌∙◌, Bool, true, false, cond, ℕ, List, [], ◌∷◌, filter, map, refl, ap, subst}
use Rattle.std.specs.Prelude.{Err, IfOk, Ok, Result}
use Rattle.rustsec_files.specs.Allowed.{Allowed, every_answer}
use Rattle.rustsec_files.specs.Listed.{ShowsFiles}
use Rattle.rustsec_files.specs.Names.{AreInOrder, AreNames, is_shown, is_shown_name, names_of, shown}
use Rattle.rustsec_files.specs.Seen.{listed_from}
use Rattle.rustsec_files.specs.declared.entry.FolderEntry.{FolderEntry}

shown-head : (b : Bool) (e : FolderEntry) (es : List FolderEntry) (names : List (List ℕ)) → names ≡ names_of es
    → cond b (e.name ∷ names) names ≡ names_of (cond b (e ∷ es) es)
shown-head true e es names is = ap (λ ns. e.name ∷ ns) is
shown-head false e es names is = is

shown-names : (entries : List FolderEntry) → filter is_shown_name (names_of entries) ≡ shown entries
shown-names [] = refl
shown-names (e ∷ es) = shown-head (is_shown e) e (filter is_shown es) (filter is_shown_name (names_of es)) (shown-names es)

pub shows-names : (l : List (List ℕ) → Type 0) (allowed : Allowed) (folder : List ℕ) (names ordered : List (List ℕ)) → AreNames allowed folder names
    → l names → AreInOrder (filter is_shown_name names) ordered → ShowsFiles (listed_from l allowed) folder ordered
shows-names l allowed folder names ordered h listed order =
    (h.0, (h.1, subst l h.2 listed), subst (λ ns. AreInOrder ns ordered) (ap (filter is_shown_name) h.2 ∙ shown-names h.0) order)

-- any names are those of some entries
entry_of : List ℕ → FolderEntry
entry_of name = record { name = name; folder = false }

unnamed : (names : List (List ℕ)) → names ≡ names_of (map entry_of names)
unfolding entry_of
unnamed [] = refl
unnamed (n ∷ ns) = ap (λ ms. n ∷ ms) (unnamed ns)

any-names : (folder : List ℕ) (names : List (List ℕ)) → AreNames every_answer folder names
any-names folder names = (map entry_of names, tt, unnamed names)

pub all-names : {E : Type 0} (r : Result (List (List ℕ)) E) (folder : List ℕ) → IfOk r (AreNames every_answer folder)
all-names (Ok names) folder = any-names folder names
all-names (Err e) folder = tt
