use Rattle.std.proofs.Common.{map}
use Rattle.rustsec_commands.proofs.lemmas.Once.{one-output-of}
use Rattle.rustsec_commands.proofs.commands.run_over.Goals as goal

pub returns-in-Ok-clause-once : goal.returns-in-Ok-clause-once
returns-in-Ok-clause-once g c once =
    one-output-of (g.F.Folders.allowed c.args.folders.now) (map (λ w. w.now) c.args.words.now) (g.R.Read.remaining c.args.input.now) once

pub returns-in-Err-clause-once : goal.returns-in-Err-clause-once
returns-in-Err-clause-once g c once =
    one-output-of (g.F.Folders.allowed c.args.folders.now) (map (λ w. w.now) c.args.words.now) (g.R.Read.remaining c.args.input.now) once
