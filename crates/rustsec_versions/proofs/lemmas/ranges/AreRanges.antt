-- The gaps between the cuts of intervals, in the order of their starts, are the ranges that the intervals leave.
use Rattle.std.proofs.Common.{◌≡◌, ◌&&◌, ◌||◌, Bool, true, false, List, None, map, refl, sym, ◌∙◌, arith, IsPermutation}
use Rattle.std.specs.Prelude.{filter_map, not}
use Rattle.std.specs.List.{list_any}
use Rattle.std.proofs.Math.ListN.{length-map}
use Rattle.std.proofs.lemmas.List.Sorted.{IsPermutation-sym, IsPermutation-trans, length_permutation, list_any-IsPermutation}
use Rattle.rustsec_versions.specs.interval.Apart.{are_apart}
use Rattle.rustsec_versions.specs.ranges.Complement.{cut, complement_from}
use Rattle.rustsec_versions.specs.interval.Interval.{Interval, has_bound, overlap}
use Rattle.rustsec_versions.specs.order.Precedence.{precedence}
use Rattle.rustsec_versions.specs.ranges.Ranges.{AreRanges, Range, lower_cut, lower_cuts, upper_cut, upper_cuts, whole}
use Rattle.rustsec_versions.proofs.lemmas.ranges.Adjacent.{AllAdmissible, IsChain, StartsRise, chain}
use Rattle.rustsec_versions.proofs.lemmas.acceptance.Clashes.{AllSound, overlap-sym}
use Rattle.rustsec_versions.proofs.lemmas.ranges.RangeEnds.{all-ends, all-starts, complement-first_introduction, complement-last_fix, complement-none, complement-whole, list_all-IsPermutation, one-IsPermutation}
use Rattle.rustsec_versions.proofs.lemmas.ranges.RangeList.{chain-begins, chain-ends, cuts-fixed, cuts-introduced, followed-from, complement-fixed, complement-followed, complement-in_order, complement-introduced, complement-length}
use Rattle.rustsec_versions.proofs.lemmas.order.Rising.{IsSorted-from}
use Rattle.rustsec_versions.proofs.lemmas.lists.Shuffled.{IsPermutation-filter_map, Shuffled, both, keep, permuted, same, shuffled, turn}

-- ---- what no order changes

pub sound_shuffled : {xs ys : List Interval} → Shuffled xs ys → AllSound xs → AllSound ys
sound_shuffled (same xs) a = a
sound_shuffled (keep x s) a = (a.0, sound_shuffled s a.1)
sound_shuffled (turn x y xs) a = (a.1.0, (a.0, a.1.1))
sound_shuffled (both s t) a = sound_shuffled t (sound_shuffled s a)

pub admissible_shuffled : {xs ys : List Interval} → Shuffled xs ys → AllAdmissible xs → AllAdmissible ys
admissible_shuffled (same xs) a = a
admissible_shuffled (keep x s) a = (a.0, admissible_shuffled s a.1)
admissible_shuffled (turn x y xs) a = (a.1.0, (a.0, a.1.1))
admissible_shuffled (both s t) a = admissible_shuffled t (admissible_shuffled s a)

-- intervals that are apart are so in any order
apart_turned : (o a b r : Bool) → (not (o || a) && (not b && r)) ≡ (not (o || b) && (not a && r))
apart_turned true a b r = refl
apart_turned false true true r = refl
apart_turned false true false r = refl
apart_turned false false true r = refl
apart_turned false false false r = refl

pub apart_shuffled : {xs ys : List Interval} → Shuffled xs ys → are_apart precedence xs ≡ are_apart precedence ys
apart_shuffled (same xs) = refl
apart_shuffled (keep x {xs} {ys} s) =
    rw (apart_shuffled s, list_any-IsPermutation (overlap precedence x) xs ys (permuted s)) refl
apart_shuffled (turn x y xs) =
    rw (overlap-sym precedence y x) (apart_turned (overlap precedence x y) (list_any (overlap precedence x) xs) (list_any (overlap precedence y) xs) (are_apart precedence xs))
apart_shuffled (both s t) = apart_shuffled s ∙ apart_shuffled t

-- ---- the ranges of a chain

-- intervals that are sound, admissible and apart, in any order
pub record AreFit (is : List Interval) : Type 0 where
  pub sound : AllSound is
  pub admissible : AllAdmissible is
  pub apart : are_apart precedence is ≡ true

pub fit-IsPermutation : (is js : List Interval) → IsPermutation is js → AreFit is → AreFit js
fit-IsPermutation is js p f =
    let s = shuffled is js p in
    record { sound = sound_shuffled s f.sound; admissible = admissible_shuffled s f.admissible; apart = sym (apart_shuffled s) ∙ f.apart }

pub fit-chain : (js : List Interval) → AreFit js → StartsRise js → IsChain (map cut js)
fit-chain js f sorted = chain js f.sound f.admissible sorted f.apart

pub complement-AreRanges : (is js : List Interval) → IsPermutation is js → AreFit is → StartsRise js
    → AreRanges is (complement_from None (map cut js))
complement-AreRanges is js p f sorted =
    let fit = fit-IsPermutation is js p f in
    let c = fit-chain js fit sorted in
    let rs = complement_from None (map cut js) in
    let fixes : filter_map (λ r. r.fixed) rs ≡ lower_cuts js = complement-fixed None (map cut js) c ∙ cuts-introduced js in
    let introductions : filter_map (λ r. r.introduced) rs ≡ upper_cuts js = complement-introduced None (map cut js) tt c ∙ cuts-fixed js in
    record {
      fixed = rw fixes (IsPermutation-filter_map (λ i. lower_cut i.start) is js p);
      fixed_rise = rw (complement-fixed None (map cut js) c) (IsSorted-from _ (chain-begins (map cut js) c));
      introduced = rw introductions (IsPermutation-filter_map (λ i. upper_cut i.end) is js p);
      introduced_rise = rw (complement-introduced None (map cut js) tt c) (IsSorted-from _ (chain-ends (map cut js) c));
      in_order = complement-in_order None (map cut js) tt c;
      followed = followed-from rs (complement-followed None (map cut js) tt c);
      first = λ r rest e.
          complement-first_introduction (map cut js) c r rest e ∙ all-starts js fit.admissible ∙ sym (list_all-IsPermutation (λ i. has_bound i.start) is js p);
      last = λ r front e. complement-last_fix None (map cut js) c r front e ∙ all-ends js fit.admissible ∙ sym (list_all-IsPermutation (λ i. has_bound i.end) is js p);
      bound = omega (arith, complement-length None (map cut js), length-map js cut, length_permutation is js p);
      empty = (
        λ e. one-IsPermutation whole is (IsPermutation-sym is _ (let none = complement-none js fit.admissible c e in rw none at p)),
        λ e. let one = one-IsPermutation whole js (rw e at p) in rw one complement-whole,
      );
    }

-- the ranges of intervals are those of the same intervals in another order
pub AreRanges-IsPermutation : (is js : List Interval) (rs : List Range) → IsPermutation is js → AreRanges is rs → AreRanges js rs
AreRanges-IsPermutation is js rs p r =
    let back = IsPermutation-sym is js p in
    record {
      fixed = IsPermutation-trans _ _ _ (IsPermutation-filter_map (λ i. lower_cut i.start) js is back) r.fixed;
      fixed_rise = r.fixed_rise;
      introduced = IsPermutation-trans _ _ _ (IsPermutation-filter_map (λ i. upper_cut i.end) js is back) r.introduced;
      introduced_rise = r.introduced_rise;
      in_order = r.in_order;
      followed = r.followed;
      first = λ x rest e. r.first x rest e ∙ list_all-IsPermutation (λ i. has_bound i.start) is js p;
      last = λ x front e. r.last x front e ∙ list_all-IsPermutation (λ i. has_bound i.end) is js p;
      bound = omega (arith, r.bound, length_permutation is js p);
      empty = (
        λ e. one-IsPermutation whole js (let one = (r.empty).0 e in rw one at p),
        λ e. (r.empty).1 (one-IsPermutation whole is (rw e at back)),
      );
    }
