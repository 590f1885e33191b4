-- Accepted lists with two patched requirements whose intervals do not overlap.
use Rattle.std.proofs.Common.{◌≡◌, ◌∙◌, ◌||◌, ◌++◌, Bool, true, false, List, [], ◌∷◌, Option, None, Some, ap, arith, get_or, length, map, refl, sym, true≢false}
use Rattle.std.specs.Prelude.{filter_map, is_some}
use Rattle.std.specs.List.{list_any}
use Rattle.std.specs.Cmp.{first_so, second_so}
use Rattle.semver.specs.Parse.{Held}
use Rattle.rustsec_versions.specs.acceptance.Lists.{Lists, accepted, accepted_apart, all_admissible}
use Rattle.rustsec_versions.specs.acceptance.Sweep.{are_clear, clashes, tag, tagged}
use Rattle.rustsec_versions.specs.interval.Interval.{Interval, overlap}
use Rattle.rustsec_versions.specs.order.Precedence.{precedence}
use Rattle.rustsec_versions.specs.requirement.Requirement.{interval_of}
use Rattle.rustsec_versions.proofs.lemmas.acceptance.Clashes.{accepted-all, accepted-clear, apart-tagged}
use Rattle.rustsec_versions.proofs.lemmas.requirement.Sound.{interval_of-sound, overlap-plain}
use Rattle.rustsec_lint_database.specs.Upstream.{AreApart}

pub pair-of : {A : Type 0} (xs : List A) (a b : A) → length xs ≡ 2 → a ≡ get_or xs 0 a → b ≡ get_or xs 1 b → xs ≡ a ∷ b ∷ []
pair-of [] a b two h k = absurd (omega arith)
pair-of (x ∷ []) a b two h k = absurd (omega arith)
pair-of (x ∷ y ∷ []) a b two h k = cc
pair-of (x ∷ y ∷ z ∷ zs) a b two h k = absurd (omega arith)

some-interval : (o : Option Interval) → is_some o ≡ true → (i : Interval) × (o ≡ Some i)
some-interval None h = absurd (true≢false (sym h))
some-interval (Some i) h = (i, refl)

-- a patched interval clashes with an unaffected one if they overlap
as-unaffected : (i : Interval) (is : List Interval) → list_any (clashes (tag true i)) (map (tag false) is) ≡ list_any (clashes (tag false i)) (map (tag false) is)
as-unaffected i [] = refl
as-unaffected i (j ∷ is) = ap (λ (b : Bool). overlap precedence i j || b) (as-unaffected i is)

two-clear : (p q : List Held) (us : List (List Held)) (i j : Interval) → interval_of p ≡ Some i → interval_of q ≡ Some j → overlap precedence i j ≡ false
    → are_clear (tagged true (p ∷ q ∷ []) ++ tagged false us) ≡ true → are_clear (tagged false (p ∷ q ∷ us)) ≡ true
two-clear p q us i j is js apart h =
    let rest = filter_map interval_of us in
    let clear : are_clear (tag true i ∷ tag true j ∷ map (tag false) rest) ≡ true = rw (is, js) at h in
    rw (is, js, apart, ← as-unaffected i rest, ← as-unaffected j rest) clear

two-accepted : (p q : List Held) (us : List (List Held)) → AreApart p q → accepted (record { patched = p ∷ q ∷ []; unaffected = us }) ≡ true
    → accepted_apart (record { patched = p ∷ q ∷ []; unaffected = us }) ≡ true
two-accepted p q us apart h =
    let ls : Lists = record { patched = p ∷ q ∷ []; unaffected = us } in
    let all : all_admissible (p ∷ q ∷ us) ≡ true = accepted-all ls h in
    let i = some-interval (interval_of p) (first_so _ _ all) in
    let j = some-interval (interval_of q) (first_so _ _ (second_so (is_some (interval_of p)) _ all)) in
    let plain = overlap-plain i.0 j.0 (interval_of-sound p i.0 i.1) (interval_of-sound q j.0 j.1) in
    apart-tagged ls all
    ∙ two-clear p q us i.0 j.0 i.1 j.1 (sym plain ∙ apart i.0 j.0 i.1 j.1) (sym (accepted-clear ls all) ∙ h)

-- the two patched requirements are apart, so all are
pub two-apart : (ls : Lists) (p q : List Held) → ls.patched ≡ p ∷ q ∷ [] → AreApart p q → accepted ls ≡ true → accepted_apart ls ≡ true
two-apart ls p q is apart h =
    let lists : Lists = record { patched = p ∷ q ∷ []; unaffected = ls.unaffected } in
    let known : accepted lists ≡ true = rw is at h in
    rw is (two-accepted p q ls.unaffected apart known)
