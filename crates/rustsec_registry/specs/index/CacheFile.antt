-- The file of a name in Cargo's cache of an index (cargo, `SummariesCache` of `sources/registry/index/cache.rs`): the
-- version of the cache's format, the version of the index's format, a revision, and then for each version its text and
-- its line. NUL ends each of these texts.
use Rattle.std.specs.Prelude.{◌==◌, ℕ, Bool, List, [], ◌∷◌, Option, Some, None, drop, length, nat_eq, nat_lt}
use Rattle.std.specs.Cmp.Lexicographic.{pointwise}
use Rattle.std.specs.List.{after_first, before_first, position_or_len, starts_with}
use Rattle.rustsec_values.specs.Reading.{◌>>=◌, only_if}
use Rattle.rustsec_registry.specs.declared.lookup.IndexVersion.{IndexVersion}
use Rattle.rustsec_registry.specs.index.IndexLines.{line_entry, version_for}

-- the versions of the two formats: 3 in one byte, and 2 in four bytes, the low one first
abbrev pub format_versions : List ℕ
format_versions = 3 ∷ 2 ∷ 0 ∷ 0 ∷ 0 ∷ []

abbrev pub is_nul : ℕ → Bool
is_nul b = b == 0

-- the text that the first NUL ends, and what is after that NUL; none without a NUL
abbrev pub cut : List ℕ → Option (List ℕ × List ℕ)
cut text = only_if (nat_lt (position_or_len is_nul text) (length text)) (Some (before_first is_nul text, after_first is_nul text))

-- what is after the versions of the formats, if these are the known ones
abbrev pub after_formats : List ℕ → Option (List ℕ)
after_formats file = only_if (starts_with nat_eq file format_versions) (Some (drop 5 file))

-- the entries of a file: what is after the revision
abbrev pub cache_entries : List ℕ → Option (List ℕ)
cache_entries file = after_formats file >>= λ text. cut text >>= λ revision. Some (revision.1)

-- what the entry at the beginning of a text says about a name, none if it is damaged. The line has the entry's version
abbrev pub pair_says : List ℕ → List ℕ → Option (Option IndexVersion)
pair_says name text = cut text >>= λ version. cut (version.1) >>= λ line. line_entry (line.0) >>= λ e.
    only_if (pointwise nat_eq e.version (version.0)) (Some (version_for name e))

-- the text after that entry, empty if the entry has no end
abbrev pub text_or_empty : Option (List ℕ) → List ℕ
text_or_empty None = []
text_or_empty (Some text) = text

abbrev pub after_pair : List ℕ → List ℕ
after_pair text = text_or_empty (cut text >>= λ version. cut (version.1) >>= λ line. Some (line.1))
