use Rattle.rustsec_database.proofs.Files.{fault-of-file}
use Rattle.rustsec_database.proofs.entries.Entries.load_text.Goals as goal

pub returns-in-Err-clause-err : goal.returns-in-Err-clause-err
returns-in-Err-clause-err c =
    fault-of-file c.args.self.now c.args.path.now c.args.text.now c.in-Err.e c.file_error.result c.in-Err.ensures.err
    c.file_error.ensures.memory c.file_error.ensures.message
