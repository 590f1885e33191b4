use Rattle.std.proofs.Common.{ap, subst, sym}
use Rattle.rustsec_check.specs.Checks.{IsCheckOf}
use Rattle.rustsec_program.specs.Checked.{FoundValue}
use Rattle.rustsec_program.proofs.checked.Found.with_all_ids.Goals as goal

pub returns-clause-check : goal.returns-clause-check
returns-clause-check c = λ all s test passes kept same ignore is.
    c.in_ok-check.ensures.ok all s test passes kept same ignore (subst (IsCheckOf s) (sym (ap (λ (f : FoundValue). f.check) c.self.view_is)) is)
