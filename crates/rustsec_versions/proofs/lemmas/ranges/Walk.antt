-- How the walk over intervals goes on.
use Rattle.std.proofs.Common.{◌≡◌, ◌<◌, ◌≤◌, ◌+◌, ◌++◌, ℕ, List, [], ◌∷◌, length, get_or, drop, refl, sym, ap, ◌∙◌, append_assoc, append-nil}
use Rattle.std.proofs.lemmas.List.{drop_all, drop_more}
use Rattle.rustsec_versions.specs.ranges.Between.{gap_to, complement_after, complement_between, opposite_bound}
use Rattle.rustsec_versions.specs.interval.Interval.{Endpoint, Interval, exclusive, inclusive, unbounded}
use Rattle.rustsec_versions.specs.acceptance.Sweep.{TaggedInterval, spans}
use Rattle.rustsec_versions.specs.Views.{endpoint_of}
use Rattle.rustsec_versions.specs.declared.bound.Bound.{Bound}
use Rattle.rustsec_versions.specs.declared.bound.Bound.TheVariants as bound

to-split : (from s : Endpoint) (rest : List Interval) → gap_to from s rest ≡ gap_to from s [] ++ rest
to-split from unbounded rest = refl
to-split from (exclusive s) rest = refl
to-split from (inclusive s) rest = refl

-- one more interval
pub walk-more : (done : List Interval) (from : Endpoint) (xs : List TaggedInterval) (i : ℕ) (x : TaggedInterval) → i < length xs → x ≡ get_or xs i x
    → done ++ complement_between from (spans (drop i xs))
    ≡ (done ++ gap_to from x.interval.start []) ++ complement_after x.interval.end (complement_between (opposite_bound x.interval.end) (spans (drop (i + 1) xs)))
unfolding complement_between
walk-more done from xs i x l at =
    let rest = complement_after x.interval.end (complement_between (opposite_bound x.interval.end) (spans (drop (i + 1) xs))) in
    rw (drop_more xs i x l, ← at)
    (ap (λ (gs : List Interval). done ++ gs) (to-split from x.interval.start rest) ∙ sym (append_assoc done (gap_to from x.interval.start []) rest))

after-some : (e next : Endpoint) (rest : List Interval) → opposite_bound e ≡ next → (next ≡ unbounded → ⊥) → complement_after e rest ≡ rest
after-some unbounded next rest h b = absurd (b (sym h))
after-some (exclusive v) next rest h b = refl
after-some (inclusive v) next rest h b = refl

after-none : (e : Endpoint) (rest : List Interval) → opposite_bound e ≡ unbounded → complement_after e rest ≡ []
after-none unbounded rest h = refl
after-none (exclusive v) rest h = cc h
after-none (inclusive v) rest h = cc h

-- a bound that is not missing
pub bound-there : (b : Bound) → (b ≡ bound.Unbounded → ⊥) → endpoint_of b ≡ unbounded → ⊥
bound-there bound.Unbounded h e = h refl
bound-there (bound.Exclusive v) h e = cc e
bound-there (bound.Inclusive v) h e = cc e

-- an interval with an end
pub walk-on : (done : List Interval) (from next : Endpoint) (xs : List TaggedInterval) (i : ℕ) (x : TaggedInterval) → i < length xs → x ≡ get_or xs i x
    → opposite_bound x.interval.end ≡ next → (next ≡ unbounded → ⊥)
    → done ++ complement_between from (spans (drop i xs))
    ≡ (done ++ gap_to from x.interval.start []) ++ complement_between next (spans (drop (i + 1) xs))
walk-on done from next xs i x l at e b = walk-more done from xs i x l at ∙ rw (after-some x.interval.end next _ e b, e) refl

-- an interval without end
pub walk-over : (done : List Interval) (from : Endpoint) (xs : List TaggedInterval) (i : ℕ) (x : TaggedInterval) → i < length xs → x ≡ get_or xs i x
    → opposite_bound x.interval.end ≡ unbounded → done ++ complement_between from (spans (drop i xs)) ≡ done ++ gap_to from x.interval.start []
walk-over done from xs i x l at e =
    walk-more done from xs i x l at ∙ rw (after-none x.interval.end _ e) (append-nil (done ++ gap_to from x.interval.start []))

-- the gap after the last interval
pub walk-end : (done : List Interval) (from : Endpoint) (xs : List TaggedInterval) (i : ℕ) → length xs ≤ i
    → done ++ complement_between from (spans (drop i xs)) ≡ done ++ record { start = from; end = unbounded } ∷ []
unfolding complement_between
walk-end done from xs i l = rw (drop_all i xs l) refl
