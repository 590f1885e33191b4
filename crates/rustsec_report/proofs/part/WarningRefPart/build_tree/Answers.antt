use Rattle.std.proofs.Common.{◌∙◌, ap}
use Rattle.std.proofs.lemmas.Result.{IfOk-weaker}
use Rattle.serde_json.specs.Written.{has_float}
use Rattle.rustsec_report.proofs.NoFloats.{warning-plain}
use Rattle.rustsec_report.proofs.part.WarningRefPart.build_tree.Goals as goal

pub returns-clause-plain : goal.returns-clause-plain
returns-clause-plain c = IfOk-weaker c.warning_tree.result _ _ (λ v is. ap has_float is ∙ warning-plain c.args.self.now) c.warning_tree.ensures
