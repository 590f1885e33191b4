use Rattle.std.proofs.Common.{◌≡◌, ◌-◌, ◌∙◌, arith, get_or, sym}
use Rattle.rustsec_versions.proofs.lemmas.search.Halving.{in-last, in-none}
use Rattle.rustsec_versions.proofs.search.in_complement.Goals as goal

pub returns-then-partition_point-eq0-clause-answer : goal.returns-then-partition_point-eq0-clause-answer
returns-then-partition_point-eq0-clause-answer c =
    sym (in-none c.args.complement.now c.args.version.now (λ k d l. c.partition_point-partition_point.ensures.after k d (omega arith) l))

pub returns-clause-answer : goal.returns-clause-answer
returns-clause-answer c =
    let gs = c.args.complement.now in
    let partition_point = c.partition_point-partition_point.result in
    let here : get_or gs (partition_point - 1) c.index-complement-partition_point.result ≡ c.index-complement-partition_point.result = sym c.index-complement-partition_point.is in
    let last = in-last gs c.args.version.now (partition_point - 1) c.index-complement-partition_point.result c.requires.turn (omega arith)
    (λ k d l. c.partition_point-partition_point.ensures.before k d (omega arith)) (λ k d l h. c.partition_point-partition_point.ensures.after k d (omega arith) h) in
    c.is_before_end.ensures.answer ∙ sym (rw here at last)
