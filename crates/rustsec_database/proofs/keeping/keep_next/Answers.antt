use Rattle.std.proofs.Common.{List, subst}
use Rattle.std.proofs.lemmas.Result.{err_from_is_err_and}
use Rattle.std.specs.Prelude.{IfOk}
use Rattle.rustsec_advisory.specs.declared.advisory.Advisory.{Advisory}
use Rattle.rustsec_database.specs.Kept.{IsKept}
use Rattle.rustsec_database.specs.Loaded.{AreLoaded}
use Rattle.rustsec_database.proofs.KeptFiles.{keep-next, keep-refused}
use Rattle.rustsec_database.proofs.keeping.keep_next.Goals as goal

pub returns-in_err-kept : goal.returns-in_err-kept
returns-in_err-kept g c = λ files h.
    let p = err_from_is_err_and c.from_residual.result c.from_residual.ensures.1 in
    keep-refused (g.T.Predicate.holds c.args.test.now) files (record { path = c.args.path.now; text = c.args.text.now }) c.args.before c.from_residual.result
    c.in_err-kept.field-0.0 _ c.in_err-kept.was p.1 p.2 h

pub returns : goal.returns
returns g c = λ files h.
    let test = g.T.Predicate.holds c.args.test.now in
    let (all, (load, kept)) = subst (λ a. IfOk a (λ k. (all : List Advisory) × (AreLoaded files all × IsKept test all k))) c.in_ok-kept.was h.0 in
    keep-next test files (record { path = c.args.path.now; text = c.args.text.now }) c.in_ok-kept.kept all c.with_file.result load kept
    c.with_file.ensures.ok c.with_file.ensures.err
