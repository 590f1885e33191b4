use Rattle.std.proofs.lemmas.Result.{IfOk-weaker}
use Rattle.rustsec_commands.proofs.lemmas.command.OneOutput.{one-output}
use Rattle.rustsec_commands.proofs.lemmas.command.ParsedOutputs.{ranges-given, ranges-malformed}
use Rattle.rustsec_commands.proofs.command.ranges.ranges_output.Goals as goal

pub returns-in-Ok-clause-output : goal.returns-in-Ok-clause-output
returns-in-Ok-clause-output c =
    let read = rw c.in-Ok.is at c.in_ok-parsed.ensures in
    IfOk-weaker c.parsed_output.result _ _ (λ o t. ranges-given c.args.input.now c.in-Ok.parsed o read.0 read.1 t) c.parsed_output.ensures

pub returns-in-Err-clause-output : goal.returns-in-Err-clause-output
returns-in-Err-clause-output c =
    let read = rw c.in-Err.is at c.in_ok-parsed.ensures in
    IfOk-weaker c.malformed_output.result _ _ (λ o t. ranges-malformed c.args.input.now c.in-Err.found.place o read.0 t) c.malformed_output.ensures

pub returns-in-Ok-clause-only : goal.returns-in-Ok-clause-only
returns-in-Ok-clause-only c =
    IfOk-weaker c.parsed_output.result _ _ (λ o t p k. one-output c.args.input.now o p t k) (returns-in-Ok-clause-output c)

pub returns-in-Err-clause-only : goal.returns-in-Err-clause-only
returns-in-Err-clause-only c =
    IfOk-weaker c.malformed_output.result _ _ (λ o t p k. one-output c.args.input.now o p t k) (returns-in-Err-clause-output c)
