-- The answers of a registry for a name, and their cached form.
use Rattle.std.specs.Prelude.{◌≡◌, ◌≢◌, ℕ, Bool, List, Option, Some, None, Result, Ok, Err, find, nat_eq, option_map, reverse}
use Rattle.std.specs.Cmp.Lexicographic.{pointwise}
use Rattle.std.specs.Map.{lookup}
use Rattle.rustsec_values.specs.Failure.{Failure}
use Rattle.rustsec_values.specs.declared.error.ErrorKind.TheVariants as kind
use Rattle.rustsec_registry.specs.declared.lookup.IndexVersion.{IndexVersion}

-- a registry's answer for a name: the versions that it lists, none if the name is missing, or an error
abbrev pub Answer : Type 0
Answer = Result (Option (List IndexVersion)) Failure

-- the entry of a list of versions for a version's text: whether it is yanked, or none if it is not listed. For a
-- version that is listed twice the last entry counts
abbrev pub listed : List ℕ → List IndexVersion → Option Bool
listed text versions = option_map (λ (v : IndexVersion). v.yanked) (find (λ (v : IndexVersion). pointwise nat_eq text v.version) (reverse versions))

-- ---- cached answers

-- a cached answer: the versions that were listed, each by its text with whether it is yanked; none if the name was
-- missing; or the error
abbrev pub Kept : Type 0
Kept = Result (Option (List (List ℕ × Bool))) Failure

-- the value at a text
abbrev pub at : {A : Type 0} → List ℕ → List (List ℕ × A) → Option A
at text entries = lookup (pointwise nat_eq text) entries

-- the cached form of an answer: for each version its entry in the list; a missing name as such; an error as it is,
-- unless it is out of memory, which is not cached
abbrev pub IsKeptOf : Answer → Kept → Type 0
IsKeptOf (Ok None) (Ok None) = Unit {0}
IsKeptOf (Ok (Some versions)) (Ok (Some entries)) = (text : List ℕ) → at text entries ≡ listed text versions
IsKeptOf (Err e) (Err f) = (f ≡ e) × (e.kind ≢ kind.OutOfMemory)
IsKeptOf (Ok None) (Ok (Some entries)) = ⊥
IsKeptOf (Ok (Some versions)) (Ok None) = ⊥
IsKeptOf (Ok o) (Err f) = ⊥
IsKeptOf (Err e) (Ok o) = ⊥

-- the cached form of some answer that may be given
abbrev pub IsKeptOfSome : (Answer → Type 0) → Kept → Type 0
IsKeptOfSome answers kept = (a : Answer) × answers a × IsKeptOf a kept

-- each cached answer is one that may be given for its name
abbrev pub AreAnswers : (List ℕ → Answer → Type 0) → List (List ℕ × Kept) → Type 0
AreAnswers answers entries = (name : List ℕ) (kept : Kept) → at name entries ≡ Some kept → IsKeptOfSome (answers name) kept

-- a look-up, and the cached answers, each at its name
pub record Cached (I : Type 0) : Type 0 where
  pub index : I
  pub kept : List (List ℕ × Kept)
