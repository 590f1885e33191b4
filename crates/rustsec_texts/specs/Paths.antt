-- Paths of functions: identifiers joined by `::`.
use Rattle.std.specs.Prelude.{ℕ, ◌==◌, Bool, true, false, ◌&&◌, ◌||◌, if◌then◌else◌, List, [], ◌∷◌, ◌++◌, Option, Some, codes, length, nat_le, nat_eq, ◌≡◌}
use Rattle.std.specs.Char.{is_ascii_digit, is_ascii_alphabetic}
use Rattle.std.specs.Cmp.{IsEquivalence, IsTotalOrder}
use Rattle.std.specs.Cmp.Lexicographic.{lists_equiv, lists_ties, lists_total, nat_list_cmp_total, nat_list_eq_equiv, pointwise, slice_cmp, texts_ties}
use Rattle.std.specs.List.{flat_map, list_all, onto_first}
use Rattle.std.specs.Ordering.{eq_by_cmp, nat_cmp}
use Rattle.std.specs.declared.cmp.Ordering.{Ordering}
use Rattle.rustsec_values.specs.Reading.{only_if}

-- the characters that an identifier begins with: `A` to `Z`, `a` to `z`, `_`, `<`
abbrev pub is_first : ℕ → Bool
is_first b = is_ascii_alphabetic b || ((b == 95) || (b == 60))

-- the characters after it: these, `0` to `9`, `>`, `,`
abbrev pub is_later : ℕ → Bool
is_later b = is_first b || (is_ascii_digit b || ((b == 62) || (b == 44)))

-- whether a text is an identifier; all its characters are ASCII, so each is a byte
abbrev pub is_identifier : List ℕ → Bool
is_identifier [] = false
is_identifier (b ∷ bs) = is_first b && list_all is_later bs

-- the identifier of a text, if it is an identifier
abbrev pub identifier_of : List ℕ → Option (List ℕ)
identifier_of text = only_if (is_identifier text) (Some text)

-- whether texts are the identifiers of a path: two or more
abbrev pub is_path : List (List ℕ) → Bool
is_path ids = nat_le 2 (length ids) && list_all is_identifier ids

-- how a path is written
abbrev pub path_text : List (List ℕ) → List ℕ
path_text [] = []
path_text (id ∷ ids) = id ++ flat_map (λ (i : List ℕ). codes "::" ++ i) ids

-- the texts between each `::` of a text and the next, from the left
abbrev pub between_colons : List ℕ → List (List ℕ)
between_colons [] = [] ∷ []
between_colons (b ∷ []) = (b ∷ []) ∷ []
between_colons (b ∷ c ∷ bs) = if (b == 58) && (c == 58) then [] ∷ between_colons bs else onto_first b (between_colons (c ∷ bs))

-- the identifiers of a path's text, if it is a path
abbrev pub path_of : List ℕ → Option (List (List ℕ))
path_of text = only_if (is_path (between_colons text)) (Some (between_colons text))

-- in other words: two or more identifiers, which joined by `::` are the text
abbrev pub IsPathOf : List ℕ → List (List ℕ) → Type 0
IsPathOf text ids = (is_path ids ≡ true) × (path_text ids ≡ text)

-- the order of paths: identifier by identifier, a path below its longer continuations
abbrev pub path_order : List (List ℕ) → List (List ℕ) → Ordering
path_order = slice_cmp (slice_cmp nat_cmp)

abbrev pub path_eq : List (List ℕ) → List (List ℕ) → Bool
path_eq = pointwise (pointwise nat_eq)

-- ---- a total order, in which only equal ones tie

pub path_equiv : IsEquivalence path_eq
path_equiv = lists_equiv nat_list_eq_equiv

pub path_total : IsTotalOrder path_order
path_total = lists_total nat_list_cmp_total

pub path_ties : (p q : List (List ℕ)) → path_eq p q ≡ eq_by_cmp path_order p q
path_ties = lists_ties (slice_cmp nat_cmp) texts_ties
