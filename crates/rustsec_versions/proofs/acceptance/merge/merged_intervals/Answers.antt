use Rattle.std.proofs.Common.{Result, Ok, Err}
use Rattle.std.specs.Prelude.{IfErr, IfOk}
use Rattle.rustsec_versions.proofs.lemmas.ranges.Agreement.{sweep-clash}
use Rattle.rustsec_versions.proofs.acceptance.merge.merged_intervals.Goals as goal

-- what is known of an inner error gives more
inner-error : {V P E : Type 0} {Q R : P → Type 0} (r : Result (Result V P) E) → ((p : P) → Q p → R p) → IfOk r (λ o. IfErr o Q) → IfOk r (λ o. IfErr o R)
inner-error (Err e) f h = tt
inner-error (Ok (Ok v)) f h = tt
inner-error (Ok (Err p)) f h = f p h

pub returns-in-Some-clause-clash : goal.returns-in-Some-clause-clash
returns-in-Some-clause-clash c = inner-error c.sweep.result
    (λ p found ls all same sorted. sweep-clash ls all c.args.sorted.now same sorted p.0.now p.1.now (rw c.in-Some.ensures.cases.0 found))
    c.sweep.ensures.clash
