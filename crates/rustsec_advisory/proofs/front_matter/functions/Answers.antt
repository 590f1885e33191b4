use Rattle.std.proofs.Common.{◌≡◌, [], ◌∷◌, rules, sym}
use Rattle.std.proofs.lemmas.Result.{err_from_is_err_and}
use Rattle.rustsec_values.proofs.Refusals.{refused_by}
use Rattle.rustsec_advisory.proofs.FunctionMaps.{no-path, no-requirements, walked-end, walked-more, walked-start, walked-stop}
use Rattle.rustsec_advisory.proofs.front_matter.functions.Goals as goal

pub loop-key-init : goal.loop-key-init
loop-key-init c =
    rw (c.new-functions.ensures, c.into_iter-key-iterator.ensures.into_iter_gives, c.iter-key-items.ensures.rest)
    (walked-start c.args.table.now.entries c.iter-key-items.ensures.ordered)

pub returns-in_err-path-clause-err : goal.returns-in_err-path-clause-err
returns-in_err-path-clause-err c =
    let step : c.loop-key.key-iterator ≡ (c.in-Some.key.now, c.in-Some.value.now) ∷ c.next.new.self = search rules in
    let walked = rw step at c.loop-key.invariant in
    let p = err_from_is_err_and c.from_residual.result c.from_residual.ensures.1 in
    rw (p.1, p.2) (refused_by _ c.in_err-path.field-0.0
    (λ none. walked-stop c.args.table.now.entries (c.in-Some.key.now, c.in-Some.value.now) c.next.new.self c.loop-key.functions walked
    (no-path (c.in-Some.key.now, c.in-Some.value.now) (rw c.as_str-name.ensures.value at none))) c.in_err-path.ensures.err)

pub returns-in_err-reqs-clause-err : goal.returns-in_err-reqs-clause-err
returns-in_err-reqs-clause-err c =
    let step : c.loop-key.key-iterator ≡ (c.in-Some.key.now, c.in-Some.value.now) ∷ c.next.new.self = search rules in
    let walked = rw step at c.loop-key.invariant in
    let path = rw c.as_str-name.ensures.value at c.in_ok-path.ensures.ok in
    let p = err_from_is_err_and c.from_residual-in_err-reqs.result c.from_residual-in_err-reqs.ensures.1 in
    rw (p.1, p.2) (refused_by _ c.in_err-reqs.field-0.0
    (λ none. walked-stop c.args.table.now.entries (c.in-Some.key.now, c.in-Some.value.now) c.next.new.self c.loop-key.functions walked
    (no-requirements (c.in-Some.key.now, c.in-Some.value.now) c.in_ok-path.path path none)) c.in_err-reqs.ensures.err)

pub loop-key-preserved : goal.loop-key-preserved
loop-key-preserved c =
    let step : c.loop-key.key-iterator ≡ (c.in-Some.key.now, c.in-Some.value.now) ∷ c.next.new.self = search rules in
    let walked = rw step at c.loop-key.invariant in
    let path = rw c.as_str-name.ensures.value at c.in_ok-path.ensures.ok in
    let reqs = rw (sym c.from.ensures) at c.in_ok-reqs.ensures.ok in
    rw c.in_ok-insert.ensures.ok (walked-more c.args.table.now.entries (c.in-Some.key.now, c.in-Some.value.now) c.next.new.self c.loop-key.functions c.in_ok-path.path c.from.result walked path reqs)

pub returns-clause-ok : goal.returns-clause-ok
returns-clause-ok c =
    let none : c.loop-key.key-iterator ≡ [] = search rules in
    walked-end c.args.table.now.entries c.loop-key.functions (rw none at c.loop-key.invariant)
