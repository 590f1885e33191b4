use Rattle.rustsec_commands.proofs.lemmas.command.ParsedOutputs.{affected-given, affected-malformed}
use Rattle.rustsec_commands.proofs.command.affected.affected_output.Goals as goal

pub returns-in-Ok : goal.returns-in-Ok
returns-in-Ok c =
    let read = rw c.in-Ok.is at c.in_ok-parsed.ensures in
    rw (affected-given c.args.input.now c.in-Ok.parsed read.0 read.1) c.parsed_output.ensures

pub returns-in-Err : goal.returns-in-Err
returns-in-Err c =
    let read = rw c.in-Err.is at c.in_ok-parsed.ensures in
    rw (affected-malformed c.args.input.now c.in-Err.found.place read.0) c.malformed_output.ensures
