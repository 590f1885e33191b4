-- The forms of texts in the OSV schema. It carries meaning: public contracts cite it.
use Rattle.std.specs.Prelude.{ℕ, ◌==◌, Bool, ◌&&◌, ◌||◌, not, List, drop, length, nat_eq, nat_lt, slice_index}
use Rattle.std.specs.List.{list_any, starts_with}
use Rattle.std.specs.Str.{bytes_eq}
use Rattle.rustsec_osv_rules.specs.schema.Names.{ecosystems_a, ecosystems_b, ecosystems_c, id_prefixes_a, id_prefixes_b, id_prefixes_c, id_prefixes_d}

-- whether a text is one of these
abbrev pub is_one_of : List (List ℕ) → List ℕ → Bool
is_one_of names text = list_any (bytes_eq text) names

-- whether a text begins with one of these
abbrev pub begins_with_one_of : List (List ℕ) → List ℕ → Bool
begins_with_one_of prefixes text = list_any (starts_with nat_eq text) prefixes

-- an ID begins with one of the listed prefixes
abbrev pub is_id : List ℕ → Bool
is_id text = begins_with_one_of id_prefixes_a text
    || (begins_with_one_of id_prefixes_b text || (begins_with_one_of id_prefixes_c text || begins_with_one_of id_prefixes_d text))

-- one line
abbrev pub is_line_end : ℕ → Bool
is_line_end b = (b == 10) || (b == 13)

abbrev pub is_one_line : List ℕ → Bool
is_one_line text = not (list_any is_line_end text)

-- ---- ecosystems

-- nothing, or a colon and more
abbrev pub is_suffix : List ℕ → Bool
is_suffix rest = (length rest == 0) || (nat_lt 1 (length rest) && (slice_index rest 0 == 58))

-- whether a text is a name, which a suffix may follow
abbrev pub is_suffixed : List ℕ → List ℕ → Bool
is_suffixed text name = starts_with nat_eq text name && is_suffix (drop (length name) text)

abbrev pub has_suffix_of : List (List ℕ) → List ℕ → Bool
has_suffix_of names text = list_any (is_suffixed text) names

-- an ecosystem: one of the listed names, which a suffix may follow
abbrev pub is_ecosystem : List ℕ → Bool
is_ecosystem text = has_suffix_of ecosystems_a text || (has_suffix_of ecosystems_b text || has_suffix_of ecosystems_c text)
