-- How IDs and their kinds are ordered, and when two are equal.
use Rattle.std.specs.Prelude.{◌≡◌, ℕ, Bool, true, Option, None, Some, nat_eq, refl}
use Rattle.std.specs.Bool.{Decides}
use Rattle.std.specs.Cmp.{IsEquivalence, IsTotalOrder, and_equiv, both_tied, first_so, nat_cmp_total, nat_eq_equiv, on_equiv, on_total, second_so, then_total, unsigned_Decides, unsigned_ties}
use Rattle.std.specs.Cmp.Lexicographic.{bytes_decides, nat_list_cmp_total, nat_list_eq_equiv, options_equiv, options_total, pointwise, slice_cmp, texts_ties}
use Rattle.std.specs.Hash as fed
use Rattle.std.specs.Option.{option_cmp, option_eq}
use Rattle.std.specs.Ordering.{eq_by_cmp, eq_of_both, nat_cmp, on, then_cmp}
use Rattle.std.specs.declared.cmp.Ordering.{Ordering}
use Rattle.std.proofs.Common.{ap, arith}
use Rattle.rustsec_values.specs.Equality.{both_true, option_decides}
use Rattle.rustsec_texts.specs.Ids.{IdValue}
use Rattle.rustsec_texts.specs.declared.id_kind.IdKind.{IdKind}
use Rattle.rustsec_texts.specs.declared.id_kind.IdKind.TheVariants as kind

-- the place of a kind in the order of kinds
abbrev pub kind_place : IdKind → ℕ
kind_place kind.RustSec = 0
kind_place kind.Cve = 1
kind_place kind.Ghsa = 2
kind_place kind.Talos = 3
kind_place kind.Other = 4

-- kinds by their places
abbrev pub kind_order : IdKind → IdKind → Ordering
kind_order = on kind_place nat_cmp

abbrev pub kind_eq : IdKind → IdKind → Bool
kind_eq = on kind_place nat_eq

-- IDs by kind, then by year, none first, then by text
abbrev pub id_order : IdValue → IdValue → Ordering
id_order = then_cmp (on (λ (i : IdValue). i.kind) kind_order)
    (then_cmp (on (λ (i : IdValue). i.year) (option_cmp nat_cmp)) (on (λ (i : IdValue). i.text) (slice_cmp nat_cmp)))

abbrev pub id_eq : IdValue → IdValue → Bool
id_eq = eq_of_both (on (λ (i : IdValue). i.kind) kind_eq)
    (eq_of_both (on (λ (i : IdValue). i.year) (option_eq nat_eq)) (on (λ (i : IdValue). i.text) (pointwise nat_eq)))

-- ---- kinds: a total order, in which only equal ones tie

pub kind_equiv : IsEquivalence kind_eq
kind_equiv = on_equiv kind_place nat_eq_equiv

pub kind_total : IsTotalOrder kind_order
kind_total = on_total kind_place nat_cmp_total

pub kind_ties : (a b : IdKind) → kind_eq a b ≡ eq_by_cmp kind_order a b
kind_ties a b = unsigned_ties (kind_place a) (kind_place b)

kind-same : (a b : IdKind) → kind_place a ≡ kind_place b → a ≡ b
kind-same kind.RustSec kind.RustSec h = refl
kind-same kind.RustSec _ h = absurd (omega (arith, h))
kind-same kind.Cve kind.Cve h = refl
kind-same kind.Cve _ h = absurd (omega (arith, h))
kind-same kind.Ghsa kind.Ghsa h = refl
kind-same kind.Ghsa _ h = absurd (omega (arith, h))
kind-same kind.Talos kind.Talos h = refl
kind-same kind.Talos _ h = absurd (omega (arith, h))
kind-same kind.Other kind.Other h = refl
kind-same kind.Other _ h = absurd (omega (arith, h))

pub kind_decides : (a b : IdKind) → Decides (kind_eq a b) (a ≡ b)
kind_decides a b =
    let d = unsigned_Decides (kind_place a) (kind_place b) in
    (λ h. kind-same a b (d.0 h), λ e. d.1 (ap kind_place e))

pub kind_fed : (a b : IdKind) → kind_eq a b ≡ true → fed.u8 (kind_place a) ≡ fed.u8 (kind_place b)
kind_fed a b h = ap (λ k. fed.u8 (kind_place k)) ((kind_decides a b).0 h)

-- ---- IDs: likewise

pub id_equiv : IsEquivalence id_eq
id_equiv = and_equiv (on_equiv (λ (i : IdValue). i.kind) kind_equiv)
    (and_equiv (on_equiv (λ (i : IdValue). i.year) (options_equiv nat_eq_equiv)) (on_equiv (λ (i : IdValue). i.text) nat_list_eq_equiv))

pub id_total : IsTotalOrder id_order
id_total = then_total (on_total (λ (i : IdValue). i.kind) kind_total)
    (then_total (on_total (λ (i : IdValue). i.year) (options_total nat_cmp_total)) (on_total (λ (i : IdValue). i.text) nat_list_cmp_total))

year-ties : (a b : Option ℕ) → option_eq nat_eq a b ≡ eq_by_cmp (option_cmp nat_cmp) a b
year-ties None None = refl
year-ties None (Some y) = refl
year-ties (Some x) None = refl
year-ties (Some x) (Some y) = unsigned_ties x y

pub id_ties : (a b : IdValue) → id_eq a b ≡ eq_by_cmp id_order a b
id_ties a b = both_tied _ _ _ _ (kind_ties a.kind b.kind) (both_tied _ _ _ _ (year-ties a.year b.year) (texts_ties a.text b.text))

id-same : (a b : IdValue) → id_eq a b ≡ true → a ≡ b
id-same a b h =
    let rest = second_so (kind_eq a.kind b.kind) _ h in
    let k = (kind_decides a.kind b.kind).0 (first_so (kind_eq a.kind b.kind) _ h) in
    let y = (option_decides nat_eq unsigned_Decides a.year b.year).0 (first_so (option_eq nat_eq a.year b.year) _ rest) in
    let t = (bytes_decides a.text b.text).0 (second_so (option_eq nat_eq a.year b.year) _ rest) in
    λ i. record { kind = k i; year = y i; text = t i }

id-equal : (a b : IdValue) → a ≡ b → id_eq a b ≡ true
id-equal a b e =
    both_true _ _ ((kind_decides a.kind b.kind).1 (ap (λ (i : IdValue). i.kind) e))
    (both_true _ _ ((option_decides nat_eq unsigned_Decides a.year b.year).1 (ap (λ (i : IdValue). i.year) e))
    ((bytes_decides a.text b.text).1 (ap (λ (i : IdValue). i.text) e)))

pub id_decides : (a b : IdValue) → Decides (id_eq a b) (a ≡ b)
id_decides a b = (id-same a b, id-equal a b)

pub id_fed : (a b : IdValue) → id_eq a b ≡ true → fed.str a.text ≡ fed.str b.text
id_fed a b h = ap (λ (i : IdValue). fed.str i.text) (id-same a b h)
