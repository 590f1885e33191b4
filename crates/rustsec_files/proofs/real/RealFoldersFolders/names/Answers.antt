use Rattle.std.proofs.lemmas.Result.{IfErr-weaker}
use Rattle.rustsec_values.proofs.Refusals.{refusal}
use Rattle.rustsec_files.proofs.Shown.{all-names}
use Rattle.rustsec_files.proofs.real.RealFoldersFolders.names.Goals as goal

pub returns-clause-ok : goal.returns-clause-ok
returns-clause-ok g c = all-names c.names.result c.args.path.now

pub returns-clause-err : goal.returns-clause-err
returns-clause-err g c = IfErr-weaker c.names.result _ _ (λ e h. refusal _ e tt h) c.names.ensures.kind
