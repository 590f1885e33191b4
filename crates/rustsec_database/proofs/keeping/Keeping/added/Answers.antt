use Rattle.std.proofs.Common.{◌≡◌, ◌∙◌, ◌+◌, Bool, true, cond, inr, length, refl, subst, sym}
use Rattle.std.proofs.lemmas.Result.{err_from_is_err_and}
use Rattle.rustsec_database.specs.Kept.{IsKept, KeptValue}
use Rattle.rustsec_database.proofs.Files.{known-fault, not-false}
use Rattle.rustsec_database.proofs.KeptFiles.{among-more, is-known, is-new, kept-with, known-kept, misfiled-fault}
use Rattle.rustsec_database.proofs.keeping.Keeping.added.Goals as goal

pub returns-in_err-advisory-clause-err : goal.returns-in_err-advisory-clause-err
returns-in_err-advisory-clause-err g c =
    let p = err_from_is_err_and c.from_residual.result c.from_residual.ensures.1 in
    rw (p.1, p.2) (λ all h. misfiled-fault all c.args.path.now c.args.text.now c.in_err-advisory.field-0.0 c.in_err-advisory.ensures.err)

pub returns-then-not-fresh-clause-err : goal.returns-then-not-fresh-clause-err
returns-then-not-fresh-clause-err g c = λ all h.
    let test = g.T.Predicate.holds c.args.test.now in
    let a = c.in_ok-advisory.advisory in
    let k : KeptValue = record { advisories = c.self.inside.entries; ids = c.self.inside.ids.keys; last_date = c.self.inside.last_date } in
    let there = is-known c.in_ok-fresh.fresh _ c.in_ok-fresh.ensures.fresh c.if-not-fresh.true in
    let known = known-kept test all a k true (subst (IsKept test all) (sym c.self.view_is) h) there in
    known-fault all c.args.path.now c.args.text.now a c.duplicate_error.result c.in_ok-advisory.ensures.ok
    (not-false _ (sym c.is_placeholder.ensures ∙ c.if-is_placeholder.false)) known c.duplicate_error.ensures

pub returns-in_err-fresh-clause-err : goal.returns-in_err-fresh-clause-err
returns-in_err-fresh-clause-err g c =
    let p = err_from_is_err_and c.from_residual-in_err-fresh.result c.from_residual-in_err-fresh.ensures.1 in
    rw (p.1, p.2) (λ all h. inr refl)

pub store_if-requires : goal.store_if-requires
store_if-requires g c =
    c.self.invariant c.in_ok-advisory.advisory.metadata.id (is-new c.in_ok-fresh.fresh _ c.in_ok-fresh.ensures.fresh c.if-not-fresh.false)

pub invariant_of-result : goal.invariant_of-result
invariant_of-result g c =
    let a = c.in_ok-advisory.advisory in
    among-more (g.T.Predicate.holds c.args.test.now a) a c.self.inside.ids.keys c.add_id.new.ids.keys c.self.inside.entries c.in_ok-entries.entries
    c.self.invariant c.in_ok-entries.ensures.ok c.in_ok-fresh.ensures.among

pub returns-clause-ok : goal.returns-clause-ok
returns-clause-ok g c = λ all h.
    let test = g.T.Predicate.holds c.args.test.now in
    let a = c.in_ok-advisory.advisory in
    let k : KeptValue = record { advisories = c.self.inside.entries; ids = c.self.inside.ids.keys; last_date = c.self.inside.last_date } in
    let n : KeptValue = record { advisories = c.in_ok-entries.entries; ids = c.add_id.new.ids.keys; last_date = c.in_ok-last_date.last_date } in
    let new = is-new c.in_ok-fresh.fresh _ c.in_ok-fresh.ensures.fresh c.if-not-fresh.false in
    let number = subst (λ (b : Bool). length n.ids ≡ length k.ids + cond b 1 0) c.if-not-fresh.false c.in_ok-fresh.ensures.number in
    kept-with test all c.args.path.now c.args.text.now a k n c.in_ok-advisory.ensures.ok
    (not-false _ (sym c.is_placeholder.ensures ∙ c.if-is_placeholder.false)) new (subst (IsKept test all) (sym c.self.view_is) h)
    c.in_ok-entries.ensures.ok c.in_ok-fresh.ensures.among number c.in_ok-last_date.ensures
