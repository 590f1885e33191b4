use Rattle.rustsec_database.proofs.Files.{fault-of-file}
use Rattle.rustsec_database.proofs.keeping.Keeping.with_file.Goals as goal

pub returns-in-Err-clause-err : goal.returns-in-Err-clause-err
returns-in-Err-clause-err g c = λ all h.
    fault-of-file all c.args.path.now c.args.text.now c.in-Err.e c.file_error.result (c.in-Err.ensures.err all h)
    c.file_error.ensures.memory c.file_error.ensures.message
