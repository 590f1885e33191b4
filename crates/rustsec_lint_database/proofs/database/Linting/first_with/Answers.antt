use Rattle.std.proofs.Common.{◌∙◌, ap, map, sym}
use Rattle.std.proofs.lemmas.Result.{IfOk-weaker}
use Rattle.rustsec_lint_database.specs.Firsts.{file_of, path_at}
use Rattle.rustsec_lint_database.proofs.Firsts.{firsts-kept, firsts-new, firsts-none, path-first, path-none}
use Rattle.rustsec_lint_database.proofs.database.Linting.first_with.Goals as goal

pub returns-in_default-clause-firsts : goal.returns-in_default-clause-firsts
returns-in_default-clause-firsts c =
    firsts-none c.args.self.now.firsts (map file_of c.args.self.now.entries) c.args.file.now c.in_default.is c.requires

pub returns-in_default-2-clause-first : goal.returns-in_default-2-clause-first
returns-in_default-2-clause-first c =
    path-none c.args.self.now.firsts (map file_of c.args.self.now.entries) c.args.file.now c.in-Some.id c.in_ok-key.key c.in-Some.is
    c.in_ok-key.ensures (sym c.in_default-2.is ∙ c.in_ok-first.ensures.old) c.requires

pub returns-in_default-2-clause-firsts : goal.returns-in_default-2-clause-firsts
returns-in_default-2-clause-firsts c =
    firsts-new c.args.self.now.firsts c.insert.new.self c.args.self.now.entries c.args.file.now c.in-Some.id c.in_ok-key.key c.len-index.result c.in-Some.is
    c.in_ok-key.ensures c.len-index.ensures (sym c.in_default-2.is ∙ c.in_ok-first.ensures.old) c.in_ok-first.ensures.updates c.requires

pub returns-clause-first : goal.returns-clause-first
returns-clause-first c =
    IfOk-weaker c.path_at.result _ _ (λ o is. is ∙ (ap (λ entries. path_at entries c.in-Some-2.first) c.as_slice.ensures
    ∙ path-first c.args.self.now.firsts c.args.self.now.entries c.args.file.now c.in-Some.id c.in_ok-key.key c.in-Some-2.first c.in-Some.is c.in_ok-key.ensures
    (sym c.in-Some-2.is ∙ c.in_ok-first.ensures.old) c.requires)) c.path_at.ensures

pub returns-clause-firsts : goal.returns-clause-firsts
returns-clause-firsts c =
    IfOk-weaker c.path_at.result _ _ (λ o is. firsts-kept c.args.self.now.firsts c.insert.new.self c.insert-2.new.self (map file_of c.args.self.now.entries) c.args.file.now
    c.in-Some.id c.in_ok-key.key c.in_ok-key-2.key c.len-index.result c.in-Some-2.first c.in-Some.is c.in_ok-key.ensures c.in_ok-key-2.ensures
    (sym c.in-Some-2.is ∙ c.in_ok-first.ensures.old) c.in_ok-first.ensures.updates c.in_ok-insert.ensures.updates c.requires) c.path_at.ensures
