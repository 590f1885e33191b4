-- The members of a table, entry by entry of the map that holds them.
use Rattle.std.proofs.Common.{◌≡◌, ◌∙◌, ℕ, List, [], ◌∷◌, ◌++◌, map, String, Global, string_bytes, refl, ap, sym}
use Rattle.std.specs.List.{flat_map}
use Rattle.std.proofs.lemmas.List.{append-nil, append_assoc}
use Rattle.toml.specs.Data.{Data}
use Rattle.toml.specs.View.{members_view, view}
use Rattle.toml.specs.declared.value.Value.{Value}
use Rattle.rustsec_advisory.specs.Affected.{members_of}

abbrev pub Entry : Type 0
Entry = String Global × Value

-- what contracts see of an entry
abbrev pub seen : Entry → List ℕ × Data
seen e = (string_bytes e.0, view e.1)

pub members_of-view : (es : List Entry) → members_of (members_view es) ≡ map seen es
members_of-view [] = refl
members_of-view (e ∷ es) = ap (λ ms. seen e ∷ ms) (members_of-view es)

-- what is appended for one entry after another
module _ {B : Type 0} (rows : List ℕ × Data → List B) where
  abbrev pub left : List Entry → List B
  left es = flat_map rows (map seen es)

  pub left-all : (es : List Entry) → left es ≡ flat_map rows (members_of (members_view es))
  left-all es = ap (flat_map rows) (sym (members_of-view es))

  pub left-step : (done : List B) (e : Entry) (es : List Entry) → (done ++ rows (seen e)) ++ left es ≡ done ++ left (e ∷ es)
  left-step done e es = append_assoc done (rows (seen e)) (left es)

  -- after the last entry
  pub walk-end : (errors old : List B) (es all : List Entry) → es ≡ [] → errors ++ left es ≡ old ++ left all
      → errors ≡ old ++ flat_map rows (members_of (members_view all))
  walk-end errors old es all none so_far =
      sym (append-nil errors) ∙ ap (λ es. errors ++ left es) (sym none) ∙ so_far ∙ ap (λ rest. old ++ rest) (left-all all)
