use Rattle.std.proofs.Common.{string_bytes}
use Rattle.std.proofs.lemmas.List.{flat_map_more, take_more}
use Rattle.rustsec_commands.specs.command.Audit.{vulnerability_line}
use Rattle.rustsec_commands.proofs.command.audit.text.add_vulnerabilities.Goals as goal

pub loop-vulnerability-preserved : goal.loop-vulnerability-preserved
loop-vulnerability-preserved c =
    rw (
      c.in_ok-add_vulnerability.ensures,
      c.loop-vulnerability.invariant,
      take_more c.args.found.now c.loop-vulnerability.vulnerability-index c.vulnerability-item.result c.loop-vulnerability-test.true,
      ← c.vulnerability-item.is,
    )
    (flat_map_more vulnerability_line (string_bytes c.args.text.now) _ c.vulnerability-item.result)
