-- The same filter twice gives the same as once.
use Rattle.std.proofs.Common.{◌≡◌, Bool, true, false, cond, List, [], ◌∷◌, map, refl, ap}
use Rattle.std.specs.List.{filter}
use Rattle.rustsec_texts.specs.declared.warning_kind.WarningKind.{WarningKind}
use Rattle.rustsec_database.specs.declared.vulnerability.Vulnerability.{Vulnerability}
use Rattle.rustsec_report.specs.Filter.{applicable, filtered}
use Rattle.rustsec_report.specs.Report.{info_of}
use Rattle.rustsec_report.specs.declared.binary_format.BinaryFormat.{BinaryFormat}
use Rattle.rustsec_report.specs.declared.report.Report.{Report}
use Rattle.rustsec_report.specs.declared.warning.Warning.{Warning}

module _ {X : Type 0} (p : X → Bool) where
  head_again : (x : X) (xs : List X) (b : Bool) → p x ≡ b → filter p xs ≡ xs → filter p (cond b (x ∷ xs) xs) ≡ cond b (x ∷ xs) xs
  head_again x xs true e h = rw e (ap (λ ys. x ∷ ys) h)
  head_again x xs false e h = h

  pub filter-again : (xs : List X) → filter p (filter p xs) ≡ filter p xs
  filter-again [] = refl
  filter-again (x ∷ xs) = head_again x (filter p xs) (p x) refl (filter-again xs)

-- a kind with the warnings of its list that pass
abbrev passing : (Warning → Bool) → WarningKind × List Warning → WarningKind × List Warning
passing p e = (e.0, filter p e.1)

kinds-again : (p : Warning → Bool) (es : List (WarningKind × List Warning)) → map (passing p) (map (passing p) es) ≡ map (passing p) es
kinds-again p [] = refl
kinds-again p (e ∷ es) = rw (filter-again p e.1) (ap (λ rest. passing p e ∷ rest) (kinds-again p es))

pub filtered-again : (f : BinaryFormat) (r : Report) → filtered f (filtered f r) ≡ filtered f r
unfolding filtered
filtered-again f r =
    let vulnerabilities = filter-again (λ (v : Vulnerability). applicable f v.affected) r.vulnerabilities.list in
    let warnings = kinds-again (λ (w : Warning). applicable f w.affected) r.warnings in
    λ i. record r { vulnerabilities = info_of (vulnerabilities i); warnings = warnings i }

pub again-from : (f : BinaryFormat) (old new : Report) → new ≡ filtered f old → filtered f new ≡ new
again-from f old new e = rw e (filtered-again f old)
