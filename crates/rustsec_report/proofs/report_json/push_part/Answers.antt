use Rattle.std.proofs.Common.{◌∙◌, ◌++◌, ap, string_bytes}
use Rattle.serde_json.specs.Written.{compact_text}
use Rattle.rustsec_report.proofs.report_json.push_part.Goals as goal

pub returns : goal.returns
returns g c = c.in_ok-push_tree.ensures c.in_ok-tree.ensures.plain ∙ ap (λ t. string_bytes c.args.json.now ++ compact_text t) c.in_ok-tree.ensures.tree
