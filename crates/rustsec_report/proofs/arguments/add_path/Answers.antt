use Rattle.rustsec_report.proofs.Pushes.{push-push}
use Rattle.rustsec_report.proofs.arguments.add_path.Goals as goal

pub returns-clause-ok : goal.returns-clause-ok
returns-clause-ok c = push-push _ _ _ _ _ c.in_ok-add_word.ensures.ok c.in_ok-add_word-2.ensures.ok
