-- Sources are compared by their texts, and a text is the text of one source.
use Rattle.std.specs.Prelude.{◌≡◌, ◌++◌, ℕ, Bool, List, [], ◌∷◌, nat_eq, refl}
use Rattle.std.specs.Bool.{Decides}
use Rattle.std.specs.Cmp.{IsEquivalence, IsTotalOrder, on_equiv, on_total}
use Rattle.std.specs.Cmp.Lexicographic.{bytes_decides, nat_list_cmp_total, nat_list_eq_equiv, pointwise, slice_cmp, texts_ties}
use Rattle.std.specs.Ordering.{eq_by_cmp, nat_cmp, on}
use Rattle.std.specs.declared.cmp.Ordering.{Ordering}
use Rattle.std.proofs.Common.{ap, arith, drop, subst, sym}
use Rattle.rustsec_lock.specs.Source.{Source, kind_word, source_text}
use Rattle.rustsec_lock.specs.declared.source.SourceKind.{SourceKind}
use Rattle.rustsec_lock.specs.declared.source.SourceKind.TheVariants as kind

-- whether two sources have the same text
abbrev pub source_eq : Source → Source → Bool
source_eq = on source_text (pointwise nat_eq)

-- sources are ordered by their texts
abbrev pub source_cmp : Source → Source → Ordering
source_cmp = on source_text (slice_cmp nat_cmp)

-- ---- the laws of both

pub source_equiv : IsEquivalence source_eq
source_equiv = on_equiv source_text nat_list_eq_equiv

pub source_total : IsTotalOrder source_cmp
source_total = on_total source_text nat_list_cmp_total

pub source_ties : (a b : Source) → source_eq a b ≡ eq_by_cmp source_cmp a b
source_ties a b = texts_ties (source_text a) (source_text b)

-- ---- sources of one text are one source

abbrev initial : List ℕ → ℕ
initial [] = 0
initial (x ∷ xs) = x

kind-same : (j k : SourceKind) (a b : List ℕ) → kind_word j ++ 43 ∷ a ≡ kind_word k ++ 43 ∷ b → j ≡ k
kind-same kind.Registry kind.Registry a b h = refl
kind-same kind.Registry _ a b h = absurd (omega (arith, ap initial h))
kind-same kind.SparseRegistry kind.SparseRegistry a b h = refl
kind-same kind.SparseRegistry _ a b h = absurd (omega (arith, ap initial h))
kind-same kind.Git kind.Git a b h = refl
kind-same kind.Git _ a b h = absurd (omega (arith, ap initial h))
kind-same kind.Path kind.Path a b h = refl
kind-same kind.Path _ a b h = absurd (omega (arith, ap initial h))
kind-same kind.LocalRegistry kind.LocalRegistry a b h = refl
kind-same kind.LocalRegistry _ a b h = absurd (omega (arith, ap initial h))
kind-same kind.Directory kind.Directory a b h = refl
kind-same kind.Directory _ a b h = absurd (omega (arith, ap initial h))

address-same : (k : SourceKind) (a b : List ℕ) → kind_word k ++ 43 ∷ a ≡ kind_word k ++ 43 ∷ b → a ≡ b
address-same kind.Registry a b h = ap (drop 9) h
address-same kind.SparseRegistry a b h = ap (drop 7) h
address-same kind.Git a b h = ap (drop 4) h
address-same kind.Path a b h = ap (drop 5) h
address-same kind.LocalRegistry a b h = ap (drop 15) h
address-same kind.Directory a b h = ap (drop 10) h

pub source-same : (a b : Source) → source_text a ≡ source_text b → a ≡ b
source-same a b h =
    let k = kind-same a.kind b.kind a.address b.address h in
    let e = address-same a.kind a.address b.address (subst (λ j. source_text a ≡ kind_word j ++ 43 ∷ b.address) (sym k) h) in
    λ i. record { kind = k i; address = e i }

pub source_decides : (a b : Source) → Decides (source_eq a b) (a ≡ b)
source_decides a b = (
  λ h. source-same a b ((bytes_decides (source_text a) (source_text b)).0 h),
  λ h. (bytes_decides (source_text a) (source_text b)).1 (ap source_text h),
)
