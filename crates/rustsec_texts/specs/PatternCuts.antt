-- Texts that begin with a pattern, and texts that are cut at one.
use Rattle.std.specs.Prelude.{◌≡◌, ◌<◌, ℕ, List, [], ◌∷◌, ◌++◌, length, Option, Some, None, option_map, if◌then◌else◌, ◌==◌}
use Rattle.std.specs.Option.{option_or}
use Rattle.std.specs.Str.Pattern.{LacksTextAt}

-- what follows a pattern, if the text begins with it
unfoldable pub after_prefix : List ℕ → List ℕ → Option (List ℕ)
after_prefix [] text = Some text
after_prefix (p ∷ ps) [] = None
after_prefix (p ∷ ps) (b ∷ bs) = if p == b then after_prefix ps bs else None

-- the text before the first place of a pattern, and the text after it
unfoldable pub cut_at : List ℕ → List ℕ → Option (List ℕ × List ℕ)
cut_at p [] = option_map (λ rest. ([], rest)) (after_prefix p [])
cut_at p (b ∷ bs) = option_or (option_map (λ rest. ([], rest)) (after_prefix p (b ∷ bs))) (option_map (λ c. (b ∷ c.0, c.1)) (cut_at p bs))

-- a text is cut at the first place of a pattern
pub record IsFirstCut (p text before after : List ℕ) : Type 0 where
  pub whole : text ≡ before ++ (p ++ after)
  pub first : (i : ℕ) → i < length before → LacksTextAt p text i

-- a text that is part of another one
abbrev pub IsSliceOf : List ℕ → List ℕ → Type 0
IsSliceOf part text = (before : List ℕ) × (after : List ℕ) × (text ≡ before ++ (part ++ after))
