use Rattle.std.proofs.Common.{◌∙◌, string_bytes}
use Rattle.rustsec_report.proofs.KindTexts.{all-written}
use Rattle.rustsec_report.proofs.report_json.push_warnings.Goals as goal

pub returns : goal.returns
returns c =
    c.in_ok-push_str-2.ensures.bytes
    ∙ all-written c.args.warnings.now c.loop-kind.later c.all-kind-items.result.now c.loop-kind.kind-index (string_bytes c.args.json.now) (string_bytes c.loop-kind.json)
    c.loop-kind-test.false c.all-kind-items.ensures c.loop-kind.invariant
