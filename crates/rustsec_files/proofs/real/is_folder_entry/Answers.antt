use Rattle.std.proofs.Common.{◌∙◌}
use Rattle.std.proofs.lemmas.Result.{IfErr-weaker}
use Rattle.rustsec_files.proofs.ListFailures.{entry-fails}
use Rattle.rustsec_files.proofs.real.is_folder_entry.Goals as goal

pub returns-clause-names : goal.returns-clause-names
returns-clause-names g c =
    IfErr-weaker c.is_folder_at.result _ _
    (λ e h. entry-fails c.args.folder.now c.args.name.now c.deref.result.now e (c.deref.ensures ∙ c.in_ok-path.ensures) h) c.is_folder_at.ensures.names
