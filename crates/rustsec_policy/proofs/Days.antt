-- The IDs that are ignored on a day, entry by entry.
use Rattle.std.proofs.Common.{◌≡◌, ◌∙◌, ◌++◌, ◌∷◌, ◌+◌, ◌<◌, ℕ, [], List, Option, Some, None, ap, get_or, length, option_map, refl, take}
use Rattle.std.specs.List.{filter_map}
use Rattle.std.proofs.lemmas.List.Elements.{filter_map-append}
use Rattle.rustsec_texts.specs.Ids.{IdValue}
use Rattle.rustsec_values.specs.Reading.{◌>>=◌, read_all}
use Rattle.rustsec_values.proofs.Readers.{read_all-more, read_all-nil, read_all-stop}
use Rattle.rustsec_policy.specs.Policies.{id_on, ids_on}
use Rattle.rustsec_policy.specs.declared.ignored.Ignored.{Ignored}

abbrev kept : List (Option IdValue) → List IdValue
kept ids = filter_map (λ id. id) ids

module _ (today : Option (List ℕ)) where
  pub ids-none : ids_on today [] ≡ Some []
  ids-none = ap (λ (o : Option (List (Option IdValue))). o >>= λ ids. Some (kept ids)) (read_all-nil (id_on today))

  more : (is : List Ignored) (k : ℕ) (i : Ignored) (old new : List IdValue) (read : Option (List (Option IdValue))) (one : Option (Option IdValue))
      → k < length is → i ≡ get_or is k i → read_all (id_on today) (take k is) ≡ read → (read >>= λ ids. Some (kept ids)) ≡ Some old
      → id_on today i ≡ one → option_map (λ id. old ++ kept (id ∷ [])) one ≡ Some new → ids_on today (take (k + 1) is) ≡ Some new
  more is k i old new None one l at r h e n = cc h
  more is k i old new (Some ids) None l at r h e n = cc n
  more is k i old new (Some ids) (Some id) l at r h e n =
      ap (λ (o : Option (List (Option IdValue))). o >>= λ all. Some (kept all)) (read_all-more (id_on today) is k i ids id l at r e)
      ∙ (ap Some (filter_map-append (λ x. x) ids (id ∷ [])) ∙ (ap (λ (o : Option (List IdValue)). option_map (λ xs. xs ++ kept (id ∷ [])) o) h ∙ n))

  -- the IDs with one more entry
  pub ids-more : (is : List Ignored) (k : ℕ) (i : Ignored) (old new : List IdValue) → k < length is → i ≡ get_or is k i
      → ids_on today (take k is) ≡ Some old → option_map (λ id. old ++ kept (id ∷ [])) (id_on today i) ≡ Some new
      → ids_on today (take (k + 1) is) ≡ Some new
  ids-more is k i old new l at h n = more is k i old new _ _ l at refl h refl n

  -- an entry that may count or not
  pub ids-stop : (is : List Ignored) (k : ℕ) (i : Ignored) → k < length is → i ≡ get_or is k i → id_on today i ≡ None → ids_on today is ≡ None
  ids-stop is k i l at e = ap (λ (o : Option (List (Option IdValue))). o >>= λ all. Some (kept all)) (read_all-stop (id_on today) is k i l at e)
