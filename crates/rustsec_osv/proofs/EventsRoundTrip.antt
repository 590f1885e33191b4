-- Reading the tree of an event gives that event.
use Rattle.std.proofs.Common.{◌≡◌, ◌<◌, inl, inr, ℕ, cond, ◌+◌, ◌≤◌, ◌==◌, List, ◌∷◌, ◌++◌, false, Some, None, refl, arith}
use Rattle.std.proofs.lemmas.Bool.{cases_Bool, eqb-true}
use Rattle.std.proofs.lemmas.List.Sums.{sum_by-append, sum_by-cons}
use Rattle.std.specs.Fmt.{decimal}
use Rattle.std.specs.Prelude.{if◌then◌else◌}
use Rattle.serde_json.specs.Find.{as_null}
use Rattle.semver.specs.Grammar.{IsValid}
use Rattle.semver.specs.Identifiers.{parts_text}
use Rattle.semver.specs.Parse.{Parts}
use Rattle.semver.proofs.Grammar.{version_parts-complete}
use Rattle.rustsec_osv.specs.DocumentEvents.{Event, fixed, introduced, last_affected}
use Rattle.rustsec_osv.specs.EventCodec.{IsEventAgain, dots, event_tree, event_version, in_full, read_event, version_of, version_tree}

-- what a byte adds to the count of dots
abbrev one : ℕ → ℕ
one b = cond (b == 46) 1 0

-- a dot after a text is one more
dots-more : (xs rest : List ℕ) (n : ℕ) → n ≤ dots rest → n + 1 ≤ dots (xs ++ 46 ∷ rest)
dots-more xs rest n h = rw (sum_by-append one xs (46 ∷ rest), sum_by-cons one 46 rest) (omega (arith, h))

-- the text of a version has two dots or more
two-dots : (v : Parts) → 2 ≤ dots (parts_text v)
two-dots v = dots-more (decimal v.0) _ 1 (dots-more (decimal v.1) _ 0 (omega arith))

-- a number above another one differs from it
above : (n k : ℕ) → k < n → (n == k) ≡ false
above n k h = elim (cases_Bool (n == k)) [
  | inl e ↦ let same = eqb-true n k e in absurd (omega arith)
  | inr e ↦ e
]

not-short : (n : ℕ) (a b c : List ℕ) → 2 ≤ n → (if n == 0 then a else (if n == 1 then b else c)) ≡ c
not-short n a b c h = rw (above n 0 (omega arith), above n 1 (omega arith)) refl

-- so it is not a short form
pub in_full-version : (v : Parts) → in_full (parts_text v) ≡ parts_text v
in_full-version v = not-short (dots (parts_text v)) _ _ _ (two-dots v)

pub version-again : (v : Parts) → IsValid v → version_of (parts_text v) ≡ Some v
version-again v h = rw (version_parts-complete v h) refl

pub event_version-again : (v : Parts) → IsValid v → event_version (version_tree v) ≡ Some v
event_version-again v h = rw (in_full-version v) (version-again v h)

-- reading the object of an event gives an equal event
pub event-again : (e : Event) → IsEventAgain e → read_event (event_tree e) ≡ Some e
event-again (introduced v) h = rw (event_version-again v h) refl
event-again (fixed v) h = rw (event_version-again v h) refl
event-again (last_affected v) h = rw (event_version-again v h) refl

pub event-there : (e : Event) → as_null (event_tree e) ≡ None
event-there (introduced v) = refl
event-there (fixed v) = refl
event-there (last_affected v) = refl
