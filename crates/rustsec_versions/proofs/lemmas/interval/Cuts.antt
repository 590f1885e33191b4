-- An interval holds the versions between its cuts.
use Rattle.std.proofs.Common.{◌≡◌, true, refl, sym, ◌∙◌, inl, inr}
use Rattle.std.specs.Cmp.{both_ways}
use Rattle.std.proofs.lemmas.Bool.{cases_Bool}
use Rattle.semver.specs.Parse.{Parts}
use Rattle.rustsec_versions.specs.interval.Interval.{Endpoint, Interval, exclusive, holds, inclusive, is_after, is_before, unbounded}
use Rattle.rustsec_versions.specs.order.Precedence.{IsVersion, is_at_most, is_below}
use Rattle.rustsec_versions.specs.requirement.Requirement.{end_cut_exists, start_cut_exists}
use Rattle.rustsec_versions.specs.ranges.Ranges.{in_range, is_from, is_until, lower_cut, upper_cut}
use Rattle.rustsec_versions.specs.ranges.Complement.{cut}
use Rattle.rustsec_versions.specs.order.Successor.{IsLeastAbove}
use Rattle.rustsec_versions.proofs.lemmas.order.LeastAbove.{successor-least, successor-there}
use Rattle.rustsec_versions.proofs.lemmas.order.PrecedenceLaws.{at_most-below, at_most-not_below, below-at_most, not_at_most}

-- a version above another one is at or above its successor
least-from : (s t v : Parts) → IsLeastAbove s t → IsVersion v → is_below s v ≡ is_at_most t v
least-from s t v l valid = both_ways _ _ (λ h. l.least v valid h) (λ h. below-at_most s t v l.above h)

-- a version at or below another one is below its successor
least-till : (e t v : Parts) → IsLeastAbove e t → IsVersion v → is_at_most v e ≡ is_below v t
least-till e t v l valid = both_ways _ _ (λ h. at_most-below v e t h l.above)
    (λ h. elim (cases_Bool (is_at_most v e)) [
      | inl fine ↦ fine
      | inr other ↦ cc (sym (at_most-not_below t v (l.least v valid (not_at_most v e other))) ∙ h)
    ])

pub start-cut : (s : Endpoint) (v : Parts) → start_cut_exists s ≡ true → IsVersion v → is_after s v ≡ is_from (lower_cut s) v
start-cut unbounded v h valid = refl
start-cut (inclusive s) v h valid = refl
start-cut (exclusive s) v h valid =
    let t = successor-there s h in
    rw t.1 (least-from s t.0 v (successor-least s t.0 t.1) valid)

pub end-cut : (e : Endpoint) (v : Parts) → end_cut_exists e ≡ true → IsVersion v → is_before e v ≡ is_until (upper_cut e) v
end-cut unbounded v h valid = refl
end-cut (exclusive e) v h valid = refl
end-cut (inclusive e) v h valid =
    let t = successor-there e h in
    rw t.1 (least-till e t.0 v (successor-least e t.0 t.1) valid)

-- an interval holds a valid version exactly if the version is between its cuts
pub holds-cut : (i : Interval) (v : Parts) → start_cut_exists i.start ≡ true → end_cut_exists i.end ≡ true → IsVersion v → holds i v ≡ in_range (cut i) v
holds-cut i v s e valid = rw (start-cut i.start v s valid, end-cut i.end v e valid) refl
