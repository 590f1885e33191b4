-- A quiet key has no row.
use Rattle.std.proofs.Common.{◌≡◌, ◌∙◌, ℕ, Bool, true, false, not, List, [], ◌∷◌, Option, ap, codes, refl, sym, true≢false, ⊎_elim}
use Rattle.std.proofs.lemmas.Bool.{and_parts, not-true, or_cases, or_parts}
use Rattle.std.specs.Cmp.Lexicographic.{bytes_decides}
use Rattle.std.specs.List.{list_all}
use Rattle.std.specs.Str.{bytes_eq}
use Rattle.toml.specs.Data.{Data}
use Rattle.rustsec_advisory.specs.LintErrors.{advisory_rows, is_one_of, quiet_keys}
use Rattle.rustsec_advisory.specs.declared.metadata.Metadata.{Metadata}

-- of two lists of keys without a common one, a key of the first is not one of the second
apart : (xs ys : List (List ℕ)) → list_all (λ k. not (is_one_of ys k)) xs ≡ true → (key : List ℕ) → is_one_of xs key ≡ true → is_one_of ys key ≡ false
apart [] ys all key h = absurd (true≢false (sym h))
apart (x ∷ xs) ys all key h =
    let parts = and_parts (not (is_one_of ys x)) (list_all (λ k. not (is_one_of ys k)) xs) all in
    ⊎_elim (λ same. ap (is_one_of ys) ((bytes_decides key x).0 same) ∙ not-true (is_one_of ys x) parts.0) (apart xs ys parts.1 key)
    (or_cases (bytes_eq key x) (is_one_of xs key) h)

-- the keys that may have a row
abbrev rowed_keys : List (List ℕ)
rowed_keys = codes "id" ∷ codes "categories" ∷ codes "collection" ∷ codes "informational" ∷ codes "url" ∷ codes "yanked" ∷ codes "license" ∷ []

pub no-quiet-rows : (draft : Option Bool) (m : Metadata) (d : Data) (key : List ℕ) → is_one_of quiet_keys key ≡ true → advisory_rows draft m (key, d) ≡ []
no-quiet-rows draft m d key quiet =
    let other = apart quiet_keys rowed_keys refl key quiet in
    let id = or_parts (bytes_eq key (codes "id")) _ other in
    let categories = or_parts (bytes_eq key (codes "categories")) _ id.1 in
    let collection = or_parts (bytes_eq key (codes "collection")) _ categories.1 in
    let informational = or_parts (bytes_eq key (codes "informational")) _ collection.1 in
    let url = or_parts (bytes_eq key (codes "url")) _ informational.1 in
    let yanked = or_parts (bytes_eq key (codes "yanked")) _ url.1 in
    let license = or_parts (bytes_eq key (codes "license")) _ yanked.1 in
    rw (id.0, categories.0, collection.0, informational.0, url.0, yanked.0, license.0, quiet) refl
