use Rattle.std.proofs.Common.{map, subst, sym}
use Rattle.rustsec_check.specs.Checks.{IsCheckOf}
use Rattle.rustsec_check.specs.Values.{CheckValue}
use Rattle.rustsec_check.proofs.KeptChecks.{kept-check}
use Rattle.rustsec_check.proofs.outcome.Check.with_all_ids.Goals as goal

pub returns-clause-ok : goal.returns-clause-ok
returns-clause-ok c = λ all s test passes kept same ignore is.
    let before : CheckValue = record {
      findings = c.self.inside.findings.items;
      ignored = c.self.inside.ignored.items;
      unused = map (λ i. i.now) c.self.inside.unused.items;
      unknown = map (λ i. i.now) c.self.inside.unknown.items;
      below_threshold = c.self.inside.below_threshold;
    } in
    let unused = rw c.deref.ensures.value at c.in_ok-unused.ensures in
    kept-check all s test c.args.kept.now before c.args.ids.now _ _ unused c.in_ok-unknown.ensures passes kept same ignore
    (subst (IsCheckOf s) (sym c.self.view_is) is)
