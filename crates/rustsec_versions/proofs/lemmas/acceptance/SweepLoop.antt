-- How the sweep over intervals goes on.
use Rattle.std.proofs.Common.{◌≡◌, ◌<◌, ◌≤◌, ◌+◌, ◌++◌, ◌&&◌, ℕ, true, false, List, [], ◌∷◌, Result, Ok, Err, length, get_or, drop, map, refl, sym, ap, append_assoc}
use Rattle.std.specs.Borrow.{Bor}
use Rattle.std.specs.Result.{result_map_both}
use Rattle.std.proofs.lemmas.List.{drop_all, drop_more}
use Rattle.rustsec_versions.specs.interval.Interval.{Endpoint, overlap}
use Rattle.rustsec_versions.specs.order.Precedence.{version_order}
use Rattle.rustsec_versions.specs.acceptance.Sweep.{TaggedInterval, from_start, later, swept}

abbrev pub left : List (Bor TaggedInterval) → ℕ → List TaggedInterval
left xs i = map (λ x. x.now) (drop i xs)

-- what is left of the sweep, after the part that is done
abbrev pub onward : List TaggedInterval → Endpoint → TaggedInterval → List (Bor TaggedInterval) → ℕ → Result (List TaggedInterval) (TaggedInterval × TaggedInterval)
onward done s c xs i = result_map_both (λ ms. done ++ ms) (λ p. p) (swept s c (left xs i))

split : (done : List TaggedInterval) (m : TaggedInterval) (o : Result (List TaggedInterval) (TaggedInterval × TaggedInterval))
    → result_map_both (λ ms. done ++ ms) (λ p. p) (result_map_both (λ ms. m ∷ ms) (λ p. p) o) ≡ result_map_both (λ ms. (done ++ m ∷ []) ++ ms) (λ p. p) o
split done m (Err p) = refl
split done m (Ok ms) = ap Ok (sym (append_assoc done (m ∷ []) ms))

module _ (done : List TaggedInterval) (s : Endpoint) (c x : TaggedInterval) (xs : List (Bor TaggedInterval)) (i : ℕ) (b : Bor TaggedInterval)
    (l : i < length xs) (at : b ≡ get_or xs i b) (is : b.now ≡ x) where
  -- the next interval does not overlap
  pub sweep-far : overlap version_order c.interval x.interval ≡ false → onward done s c xs i ≡ onward (done ++ from_start s c ∷ []) x.interval.start x xs (i + 1)
  unfolding swept
  sweep-far far = rw (drop_more xs i b l, ← at, is, far) (split done (from_start s c) (swept x.interval.start x (left xs (i + 1))))

  -- the next interval overlaps, and both are patched
  pub sweep-near : overlap version_order c.interval x.interval ≡ true → (c.is_patched && x.is_patched) ≡ true
      → onward done s c xs i ≡ onward done s (later c x) xs (i + 1)
  unfolding swept
  sweep-near near both = rw (drop_more xs i b l, ← at, is, near, both) refl

  -- the next interval overlaps, and one of the two is not patched
  pub sweep-clash : overlap version_order c.interval x.interval ≡ true → (c.is_patched && x.is_patched) ≡ false → onward done s c xs i ≡ Err (c, x)
  unfolding swept
  sweep-clash near other = rw (drop_more xs i b l, ← at, is, near, other) refl

-- there is no next interval
pub sweep-end : (done : List TaggedInterval) (s : Endpoint) (c : TaggedInterval) (xs : List (Bor TaggedInterval)) (i : ℕ) → length xs ≤ i
    → onward done s c xs i ≡ Ok (done ++ from_start s c ∷ [])
unfolding swept
sweep-end done s c xs i l = rw (drop_all i xs l) refl
