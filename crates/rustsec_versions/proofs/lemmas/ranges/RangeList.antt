-- The gaps between intervals that follow one another are their ranges.
use Rattle.std.proofs.Common.{◌≡◌, ◌≤◌, ◌+◌, zero, suc, true, List, [], ◌∷◌, Option, Some, None, length, map, refl, ap, arith}
use Rattle.std.specs.Prelude.{filter_map}
use Rattle.std.specs.List.{AllAdjacentBelow, cons_option, list_all}
use Rattle.semver.specs.Parse.{Parts}
use Rattle.rustsec_versions.specs.ranges.Complement.{cut, gap_before, complement_beyond, complement_from}
use Rattle.rustsec_versions.specs.interval.Interval.{Interval}
use Rattle.rustsec_versions.specs.order.Precedence.{is_at_most}
use Rattle.rustsec_versions.specs.ranges.Ranges.{Range, is_followed, is_in_order, lower_cut, lower_cuts, upper_cut, upper_cuts}
use Rattle.rustsec_versions.proofs.lemmas.ranges.Adjacent.{FollowOn, Follows, InOrder, IsChain, StartsFrom}
use Rattle.rustsec_versions.proofs.lemmas.order.PrecedenceLaws.{at_most-trans}
use Rattle.rustsec_versions.proofs.lemmas.order.Rising.{Rises, Rises-cons}

-- ---- fixes and introductions

fixes_step : (from lo up : Option Parts) (cs : List Range) → FollowOn up cs
    → filter_map (λ r. r.fixed) (complement_from up cs) ≡ filter_map (λ c. c.introduced) cs
    → filter_map (λ r. r.fixed) (gap_before from lo (complement_beyond up (complement_from up cs))) ≡ cons_option lo (filter_map (λ c. c.introduced) cs)
fixes_step from None None [] f ih = refl
fixes_step from (Some l) None [] f ih = refl
fixes_step from lo None (d ∷ cs) f ih = absurd f
fixes_step from None (Some u) cs f ih = ih
fixes_step from (Some l) (Some u) cs f ih = ap (λ (vs : List Parts). l ∷ vs) ih

-- the fixes of the gaps are where the ranges between them begin
pub complement-fixed : (from : Option Parts) (cs : List Range) → IsChain cs → filter_map (λ r. r.fixed) (complement_from from cs) ≡ filter_map (λ c. c.introduced) cs
unfolding complement_from
complement-fixed from [] c = refl
complement-fixed from (r ∷ cs) c = fixes_step from r.introduced r.fixed cs c.1 (complement-fixed r.fixed cs c.2)

starts_one : (from : Option Parts) (c : Range) (cs : List Range) → StartsFrom from (c ∷ cs) → StartsFrom from (c ∷ [])
starts_one None c cs s = s
starts_one (Some w) c cs s = s

introductions_step : (from lo up : Option Parts) (cs : List Range) → StartsFrom from (record { introduced = lo; fixed = up } ∷ []) → FollowOn up cs
    → ((w : Option Parts) → StartsFrom w cs → filter_map (λ r. r.introduced) (complement_from w cs) ≡ cons_option w (filter_map (λ c. c.fixed) cs))
    → filter_map (λ r. r.introduced) (gap_before from lo (complement_beyond up (complement_from up cs))) ≡ cons_option from (cons_option up (filter_map (λ c. c.fixed) cs))
introductions_step None None None [] s f ih = refl
introductions_step None (Some l) None [] s f ih = refl
introductions_step (Some w) (Some l) None [] s f ih = refl
introductions_step from lo None (d ∷ cs) s f ih = absurd f
introductions_step (Some w) None up cs s f ih = absurd s
introductions_step None None (Some u) cs s f ih = ih (Some u) f
introductions_step None (Some l) (Some u) cs s f ih = ih (Some u) f
introductions_step (Some w) (Some l) (Some u) cs s f ih = ap (λ (vs : List Parts). w ∷ vs) (ih (Some u) f)

-- the introductions of the gaps are where the ranges between them end
pub complement-introduced : (from : Option Parts) (cs : List Range) → StartsFrom from cs → IsChain cs
    → filter_map (λ r. r.introduced) (complement_from from cs) ≡ cons_option from (filter_map (λ c. c.fixed) cs)
unfolding complement_from
complement-introduced None [] s c = refl
complement-introduced (Some w) [] s c = refl
complement-introduced from (r ∷ cs) s c =
    introductions_step from r.introduced r.fixed cs (starts_one from r cs s) c.1 (λ w t. complement-introduced w cs t c.2)

cons_same : {X : Type 0} (o : Option X) (xs ys : List X) → xs ≡ ys → cons_option o xs ≡ cons_option o ys
cons_same o xs ys h = ap (cons_option o) h

pub cuts-introduced : (is : List Interval) → filter_map (λ c. c.introduced) (map cut is) ≡ lower_cuts is
cuts-introduced [] = refl
cuts-introduced (i ∷ is) = cons_same (lower_cut i.start) _ _ (cuts-introduced is)

pub cuts-fixed : (is : List Interval) → filter_map (λ c. c.fixed) (map cut is) ≡ upper_cuts is
cuts-fixed [] = refl
cuts-fixed (i ∷ is) = cons_same (upper_cut i.end) _ _ (cuts-fixed is)

-- ---- rising order

begins_step : (lo up : Option Parts) (cs : List Range) → InOrder lo up → FollowOn up cs → Rises (filter_map (λ c. c.introduced) cs)
    → Rises (cons_option lo (filter_map (λ c. c.introduced) cs))
begins_step None up cs o f r = r
begins_step (Some l) up [] o f r = tt
begins_step (Some l) None (d ∷ cs) o f r = absurd f
begins_step (Some l) (Some u) (d ∷ cs) o f r = begins_two l u d.introduced (filter_map (λ c. c.introduced) cs) o f r
  where
    begins_two : (l u : Parts) (m : Option Parts) (vs : List Parts) → is_at_most l u ≡ true → Follows (Some u) m → Rises (cons_option m vs) → Rises (l ∷ cons_option m vs)
    begins_two l u None vs o f r = absurd f
    begins_two l u (Some m) vs o f r = Rises-cons l m vs (at_most-trans l u m o f) r

-- where the ranges of a chain begin
pub chain-begins : (cs : List Range) → IsChain cs → Rises (filter_map (λ c. c.introduced) cs)
chain-begins [] c = tt
chain-begins (r ∷ cs) c = begins_step r.introduced r.fixed cs c.0 c.1 (chain-begins cs c.2)

ends_two : (u : Parts) (m t : Option Parts) (vs : List Parts) → Follows (Some u) m → InOrder m t → (t ≡ None → vs ≡ []) → Rises (cons_option t vs) → Rises (u ∷ cons_option t vs)
ends_two u None t vs f o n r = absurd f
ends_two u (Some m) None vs f o n r = rw (n refl) tt
ends_two u (Some m) (Some t) vs f o n r = Rises-cons u t vs (at_most-trans u m t f o) r

none_further : (up : Option Parts) (cs : List Range) → FollowOn up cs → up ≡ None → filter_map (λ c. c.fixed) cs ≡ []
none_further up [] f h = refl
none_further None (d ∷ cs) f h = absurd f
none_further (Some u) (d ∷ cs) f h = cc h

ends_step : (lo up : Option Parts) (cs : List Range) → FollowOn up cs → IsChain cs → Rises (filter_map (λ c. c.fixed) cs)
    → Rises (cons_option up (filter_map (λ c. c.fixed) cs))
ends_step lo None cs f c r = r
ends_step lo (Some u) [] f c r = tt
ends_step lo (Some u) (d ∷ cs) f c r = ends_two u d.introduced d.fixed (filter_map (λ c. c.fixed) cs) f c.0 (none_further d.fixed cs c.1) r

-- where they end
pub chain-ends : (cs : List Range) → IsChain cs → Rises (filter_map (λ c. c.fixed) cs)
chain-ends [] c = tt
chain-ends (r ∷ cs) c = ends_step r.introduced r.fixed cs c.1 c.2 (chain-ends cs c.2)

-- ---- the sides of each gap

in_order_step : (from lo up : Option Parts) (cs : List Range) → StartsFrom from (record { introduced = lo; fixed = up } ∷ []) → FollowOn up cs
    → ((w : Option Parts) → StartsFrom w cs → list_all (λ r. is_in_order r.introduced r.fixed) (complement_from w cs) ≡ true)
    → list_all (λ r. is_in_order r.introduced r.fixed) (gap_before from lo (complement_beyond up (complement_from up cs))) ≡ true
in_order_step None None None [] s f ih = refl
in_order_step None (Some l) None [] s f ih = refl
in_order_step (Some w) (Some l) None [] s f ih = rw s refl
in_order_step from lo None (d ∷ cs) s f ih = absurd f
in_order_step (Some w) None up cs s f ih = absurd s
in_order_step None None (Some u) cs s f ih = ih (Some u) f
in_order_step None (Some l) (Some u) cs s f ih = ih (Some u) f
in_order_step (Some w) (Some l) (Some u) cs s f ih = rw (s, ih (Some u) f) refl

-- each gap begins at or below its end
pub complement-in_order : (from : Option Parts) (cs : List Range) → StartsFrom from cs → IsChain cs
    → list_all (λ r. is_in_order r.introduced r.fixed) (complement_from from cs) ≡ true
unfolding complement_from
complement-in_order None [] s c = refl
complement-in_order (Some w) [] s c = refl
complement-in_order from (r ∷ cs) s c = in_order_step from r.introduced r.fixed cs (starts_one from r cs s) c.1 (λ w t. complement-in_order w cs t c.2)

-- neighbours, by recursion
abbrev pub AllFollowed : List Range → Type 0
AllFollowed [] = Unit {0}
AllFollowed (r ∷ []) = Unit {0}
AllFollowed (r ∷ s ∷ rs) = (is_followed r.fixed s.introduced ≡ true) × AllFollowed (s ∷ rs)

pub followed-from : (rs : List Range) → AllFollowed rs → AllAdjacentBelow (λ r s. is_followed r.fixed s.introduced ≡ true) rs (length rs)
followed-from [] a k d high = absurd (omega arith)
followed-from (r ∷ []) a k d high = absurd (omega arith)
followed-from (r ∷ s ∷ rs) a zero d high = a.0
followed-from (r ∷ s ∷ rs) a (suc k) d high =
    let e : suc k + 1 ≡ suc (k + 1) = omega arith in
    rw e (followed-from (s ∷ rs) a.1 k d (omega arith))

pub followed-to : (rs : List Range) → AllAdjacentBelow (λ r s. is_followed r.fixed s.introduced ≡ true) rs (length rs) → AllFollowed rs
followed-to [] a = tt
followed-to (r ∷ []) a = tt
followed-to (r ∷ s ∷ rs) a =
    (a 0 r (omega arith), followed-to (s ∷ rs) (λ k d high. let e : suc k + 1 ≡ suc (k + 1) = omega arith in rw e at (a (suc k) d (omega arith))))

-- the gaps from a version begin there
first_step : (u : Parts) (lo up : Option Parts) (rs : List Range) → Follows (Some u) lo
    → (f : Option Parts) × ((rest : List Range) × (gap_before (Some u) lo (complement_beyond up rs) ≡ record { introduced = Some u; fixed = f } ∷ rest))
first_step u None up rs f = absurd f
first_step u (Some l) up rs f = (Some l, (complement_beyond up rs, refl))

pub complement-first : (u : Parts) (cs : List Range) → FollowOn (Some u) cs
    → (f : Option Parts) × ((rest : List Range) × (complement_from (Some u) cs ≡ record { introduced = Some u; fixed = f } ∷ rest))
unfolding complement_from
complement-first u [] f = (None, ([], refl))
complement-first u (c ∷ cs) f = first_step u c.introduced c.fixed (complement_from c.fixed cs) f

followed_two : (from : Option Parts) (l u : Parts) (rs : List Range) → is_at_most l u ≡ true
    → (f : Option Parts) × ((rest : List Range) × (rs ≡ record { introduced = Some u; fixed = f } ∷ rest)) → AllFollowed rs
    → AllFollowed (record { introduced = from; fixed = Some l } ∷ rs)
followed_two from l u rs o h a = rw h.1.1 (o, rw h.1.1 at a)

followed_step : (from lo up : Option Parts) (cs : List Range) → StartsFrom from (record { introduced = lo; fixed = up } ∷ []) → InOrder lo up → FollowOn up cs
    → ((w : Option Parts) → StartsFrom w cs → AllFollowed (complement_from w cs))
    → AllFollowed (gap_before from lo (complement_beyond up (complement_from up cs)))
followed_step from None None [] s o f ih = tt
followed_step from (Some l) None [] s o f ih = tt
followed_step from lo None (d ∷ cs) s o f ih = absurd f
followed_step (Some w) None up cs s o f ih = absurd s
followed_step None None (Some u) cs s o f ih = ih (Some u) f
followed_step from (Some l) (Some u) cs s o f ih = followed_two from l u (complement_from (Some u) cs) o (complement-first u cs f) (ih (Some u) f)

pub complement-followed : (from : Option Parts) (cs : List Range) → StartsFrom from cs → IsChain cs → AllFollowed (complement_from from cs)
unfolding complement_from
complement-followed from [] s c = tt
complement-followed from (r ∷ cs) s c = followed_step from r.introduced r.fixed cs (starts_one from r cs s) c.0 c.1 (λ w t. complement-followed w cs t c.2)

-- ---- how many

bound_step : (from lo up : Option Parts) (cs : List Range) → ((w : Option Parts) → length (complement_from w cs) ≤ length cs + 1)
    → length (gap_before from lo (complement_beyond up (complement_from up cs))) ≤ suc (length cs) + 1
bound_step from None None cs ih = omega arith
bound_step from None (Some u) cs ih = omega (arith, ih (Some u))
bound_step from (Some l) None cs ih = omega arith
bound_step from (Some l) (Some u) cs ih = omega (arith, ih (Some u))

pub complement-length : (from : Option Parts) (cs : List Range) → length (complement_from from cs) ≤ length cs + 1
unfolding complement_from
complement-length from [] = omega arith
complement-length from (r ∷ cs) = bound_step from r.introduced r.fixed cs (λ w. complement-length w cs)
