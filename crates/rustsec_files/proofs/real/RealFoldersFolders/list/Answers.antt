use Rattle.std.proofs.lemmas.Result.{IfErr-weaker}
use Rattle.rustsec_values.proofs.Refusals.{refusal}
use Rattle.rustsec_files.proofs.real.RealFoldersFolders.list.Goals as goal

pub returns-clause-err : goal.returns-clause-err
returns-clause-err g c = IfErr-weaker c.entries.result _ _ (λ e h. refusal _ e tt h) c.entries.ensures.kind
