-- The order of a vector's parts does not matter.
use Rattle.std.proofs.Common.{◌≡◌, ◌∙◌, ◌==◌, ℕ, List, [], ◌∷◌, ◌++◌, Option, Some, None, IsPermutation, ap, arith, codes, length, refl, sym}
use Rattle.std.proofs.lemmas.List.Sorted.{length_permutation}
use Rattle.rustsec_values.specs.Reading.{◌>>=◌, only_if}
use Rattle.rustsec_versions.proofs.lemmas.ranges.RangeEnds.{one-IsPermutation}
use Rattle.rustsec_versions.proofs.lemmas.lists.Shuffled.{IsPermutation-filter_map}
use Rattle.rustsec_lock.specs.Cvss.{base_of, after_prefix, cvss_of, metric_letter, lone, metrics_of, or_else, parts_of}
use Rattle.rustsec_lock.specs.declared.cvss.Cvss.{Cvss}
use Rattle.rustsec_lock.specs.declared.cvss.Cvss.TheVariants as cvss

lone-permuted : {A : Type 0} (xs ys : List A) → IsPermutation xs ys → lone xs ≡ lone ys
lone-permuted [] [] h = refl
lone-permuted [] (y ∷ ys) h = absurd (omega (arith, length_permutation [] (y ∷ ys) h))
lone-permuted (x ∷ []) ys h = ap lone (sym (one-IsPermutation x ys h))
lone-permuted (x ∷ w ∷ xs) [] h = absurd (omega (arith, length_permutation (x ∷ w ∷ xs) [] h))
lone-permuted (x ∷ w ∷ xs) (y ∷ []) h = absurd (omega (arith, length_permutation (x ∷ w ∷ xs) (y ∷ []) h))
lone-permuted (x ∷ w ∷ xs) (y ∷ z ∷ ys) h = refl

metric_letter-permuted : (name : List ℕ) (ps qs : List (List ℕ)) → IsPermutation ps qs → metric_letter name ps ≡ metric_letter name qs
unfolding metric_letter
metric_letter-permuted name ps qs h = lone-permuted _ _ (IsPermutation-filter_map (after_prefix name) ps qs h)

-- parts in another order give the same metrics
pub metrics_of-permuted : (minor : ℕ) (ps qs : List (List ℕ)) → IsPermutation ps qs → metrics_of minor ps ≡ metrics_of minor qs
metrics_of-permuted minor ps qs h =
    rw (
      metric_letter-permuted (codes "AV:") ps qs h,
      metric_letter-permuted (codes "AC:") ps qs h,
      metric_letter-permuted (codes "PR:") ps qs h,
      metric_letter-permuted (codes "UI:") ps qs h,
      metric_letter-permuted (codes "S:") ps qs h,
      metric_letter-permuted (codes "C:") ps qs h,
      metric_letter-permuted (codes "I:") ps qs h,
      metric_letter-permuted (codes "A:") ps qs h,
    ) refl

-- so do texts whose parts are in another order
pub base_of-permuted : (minor : ℕ) (a b : List ℕ) → IsPermutation (parts_of a) (parts_of b) → base_of minor a ≡ base_of minor b
unfolding base_of
base_of-permuted minor a b h =
    ap (λ n. only_if (n == 8) (metrics_of minor (parts_of a))) (sym (length_permutation (parts_of a) (parts_of b) h))
    ∙ ap (only_if (length (parts_of b) == 8)) (metrics_of-permuted minor (parts_of a) (parts_of b) h)

alone : (o : Option Cvss) → or_else o None ≡ o
alone None = refl
alone (Some x) = refl

cvss_of-0 : (a : List ℕ) → cvss_of (codes "CVSS:3.0/" ++ a) ≡ (base_of 0 a >>= λ b. Some (cvss.CvssV30 b))
cvss_of-0 a = alone (base_of 0 a >>= λ b. Some (cvss.CvssV30 b))

cvss_of-1 : (a : List ℕ) → cvss_of (codes "CVSS:3.1/" ++ a) ≡ (base_of 1 a >>= λ b. Some (cvss.CvssV31 b))
cvss_of-1 a = alone (base_of 1 a >>= λ b. Some (cvss.CvssV31 b))

-- and so one vector, in each version that has parts
pub cvss_of-permuted_0 : (a b : List ℕ) → IsPermutation (parts_of a) (parts_of b)
    → cvss_of (codes "CVSS:3.0/" ++ a) ≡ cvss_of (codes "CVSS:3.0/" ++ b)
cvss_of-permuted_0 a b h = rw (cvss_of-0 a, cvss_of-0 b, base_of-permuted 0 a b h) refl

pub cvss_of-permuted_1 : (a b : List ℕ) → IsPermutation (parts_of a) (parts_of b)
    → cvss_of (codes "CVSS:3.1/" ++ a) ≡ cvss_of (codes "CVSS:3.1/" ++ b)
cvss_of-permuted_1 a b h = rw (cvss_of-1 a, cvss_of-1 b, base_of-permuted 1 a b h) refl
