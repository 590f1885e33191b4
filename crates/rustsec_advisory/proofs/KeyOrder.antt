-- The keys of a table rise, since the map that holds them is in order.
use Rattle.std.proofs.Common.{◌≡◌, ℕ, List, [], ◌∷◌, Less, None, String, Global, map, string_bytes, subst, sym}
use Rattle.std.specs.Cmp.Lexicographic.{slice_cmp}
use Rattle.std.specs.List.{AllByRecursion}
use Rattle.std.specs.List.Sorted.{IsStrictlySortedBy}
use Rattle.std.specs.Map.{keys_of}
use Rattle.std.specs.Ordering.{nat_cmp}
use Rattle.std.specs.String.{string_cmp}
use Rattle.toml.specs.Data.{Data, array, as_table, boolean, datetime, float, integer, string, table}
use Rattle.toml.specs.View.{members_view}
use Rattle.rustsec_advisory.proofs.Members.{Entry, members_of-view, seen}
use Rattle.rustsec_advisory.specs.Affected.{members_of}
use Rattle.rustsec_advisory.specs.KeyOrder.{KeysRise, SectionRises}

below : (k : String Global) (es : List Entry) → AllByRecursion (λ l. string_cmp k l ≡ Less) (keys_of es)
    → AllByRecursion (λ l. slice_cmp nat_cmp (string_bytes k) l ≡ Less) (keys_of (map seen es))
below k [] h = tt
below k (e ∷ es) h = (h.0, below k es h.1)

seen-rise : (es : List Entry) → IsStrictlySortedBy string_cmp (keys_of es) → KeysRise (map seen es)
unfolding IsStrictlySortedBy
seen-rise [] h = tt
seen-rise (e ∷ es) h = (below e.0 es h.0, seen-rise es h.1)

pub keys-rise : (es : List Entry) → IsStrictlySortedBy string_cmp (keys_of es) → KeysRise (members_of (members_view es))
keys-rise es h = subst KeysRise (sym (members_of-view es)) (seen-rise es h)

-- once the sections among these entries rise, all of them do
abbrev pub SectionsLeft : List Entry → List Entry → Type 0
SectionsLeft es all = AllByRecursion SectionRises (map seen es) → AllByRecursion SectionRises (members_of (members_view all))

pub sections-all : (es : List Entry) → SectionsLeft es es
sections-all es h = subst (AllByRecursion SectionRises) (sym (members_of-view es)) h

pub sections-end : (es all : List Entry) → es ≡ [] → SectionsLeft es all → AllByRecursion SectionRises (members_of (members_view all))
sections-end es all none so_far = so_far (subst (λ xs. AllByRecursion SectionRises (map seen xs)) (sym none) tt)

-- a value that is not a table is not a section
pub no-section : (key : List ℕ) (d : Data) → None ≡ as_table d → SectionRises (key, d)
unfolding IsStrictlySortedBy
no-section key (table ms) h = absurd (cc h)
no-section key (string s) h = λ _. tt
no-section key (integer z) h = λ _. tt
no-section key (float x) h = λ _. tt
no-section key (boolean b) h = λ _. tt
no-section key (datetime dt) h = λ _. tt
no-section key (array ds) h = λ _. tt
