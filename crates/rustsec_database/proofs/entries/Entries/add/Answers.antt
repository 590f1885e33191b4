use Rattle.std.proofs.Common.{◌≡◌, ◌⊎◌, ◌∙◌, IfErr, rules, sym, true}
use Rattle.std.proofs.lemmas.Result.{IfErr-weaker}
use Rattle.rustsec_values.specs.Failure.{IsMemory, IsOfKind}
use Rattle.rustsec_values.specs.declared.error.ErrorKind.TheVariants as kind
use Rattle.rustsec_database.specs.Loaded.{is_known}
use Rattle.rustsec_database.proofs.Files.{not-false, refused-fault}
use Rattle.rustsec_database.proofs.entries.Entries.add.Goals as goal

pub returns-in_err-slot-clause-err : goal.returns-in_err-slot-clause-err
returns-in_err-slot-clause-err c =
    let a = c.in_ok-advisory.advisory in
    let why : IfErr c.from_residual-in_err-slot.result (λ e. ((is_known c.args.self.now a ≡ true) × IsOfKind kind.Parse e) ⊎ IsMemory e) = search rules in
    IfErr-weaker c.from_residual-in_err-slot.result _ _
    (λ e h. refused-fault c.args.self.now c.args.path.now c.args.text.now a e c.in_ok-advisory.ensures.ok
    (not-false _ (sym c.is_placeholder.ensures ∙ c.if-is_placeholder.false)) h) why
