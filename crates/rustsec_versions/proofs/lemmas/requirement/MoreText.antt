-- The text of the comparators after the first, one at a time.
use Rattle.std.proofs.Common.{◌≡◌, ℕ, ◌<◌, ◌≤◌, ◌+◌, List, ◌++◌, length, get_or, drop, map, codes, append_assoc, append-nil}
use Rattle.std.proofs.lemmas.List.{drop_more, drop_all}
use Rattle.semver.specs.Identifiers.{comparator_view}
use Rattle.semver.specs.declared.Comparator.{Comparator}
use Rattle.rustsec_versions.specs.requirement.RequirementText.{comparator_text, more_text}

pub more_step : (text new : List ℕ) (cs : List Comparator) (i : ℕ) (x : Comparator) → i < length cs → x ≡ get_or cs i x
    → new ≡ (text ++ codes ", ") ++ comparator_text (comparator_view x)
    → new ++ more_text (map comparator_view (drop (i + 1) cs)) ≡ text ++ more_text (map comparator_view (drop i cs))
unfolding more_text
more_step text new cs i x l at e = rw (drop_more cs i x l, ← at, e) (simp append_assoc)

pub more_end : (text : List ℕ) (cs : List Comparator) (i : ℕ) → length cs ≤ i → text ++ more_text (map comparator_view (drop i cs)) ≡ text
unfolding more_text
more_end text cs i l = rw (drop_all i cs l) (append-nil text)
