-- The entry of a list for a version's text, entry by entry.
use Rattle.std.proofs.Common.{◌≡◌, ◌∙◌, ◌++◌, ℕ, Bool, true, false, cond, List, [], ◌∷◌, Option, Some, nat_eq, refl, ap}
use Rattle.std.specs.Prelude.{find, option_map}
use Rattle.std.specs.Cmp.Lexicographic.{pointwise}
use Rattle.std.proofs.lemmas.List.{reverse-append}
use Rattle.rustsec_registry.specs.declared.lookup.IndexVersion.{IndexVersion}
use Rattle.rustsec_registry.specs.Lookups.{listed}

map-cond : {A B : Type 0} (f : A → B) (b : Bool) (x : A) (o : Option A) → option_map f (cond b (Some x) o) ≡ cond b (Some (f x)) (option_map f o)
map-cond f true x o = refl
map-cond f false x o = refl

-- the last entry counts
pub listed-push : (versions : List IndexVersion) (v : IndexVersion) (text : List ℕ)
    → listed text (versions ++ v ∷ []) ≡ cond (pointwise nat_eq text v.version) (Some v.yanked) (listed text versions)
listed-push versions v text =
    ap (λ vs. option_map (λ (w : IndexVersion). w.yanked) (find (λ (w : IndexVersion). pointwise nat_eq text w.version) vs)) (reverse-append versions (v ∷ []))
    ∙ map-cond (λ (w : IndexVersion). w.yanked) (pointwise nat_eq text v.version) v _
