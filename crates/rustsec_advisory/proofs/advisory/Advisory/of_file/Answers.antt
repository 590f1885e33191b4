use Rattle.rustsec_advisory.proofs.FileRefusals.{is_of_file, same_reason}
use Rattle.rustsec_advisory.proofs.advisory.Advisory.of_file.Goals as goal

pub returns-in-Err-clause-err : goal.returns-in-Err-clause-err
returns-in-Err-clause-err c = same_reason _ _ _ c.in-Err.ensures.err c.file_error.ensures.kind c.file_error.ensures.memory

pub returns-in-Err-clause-names : goal.returns-in-Err-clause-names
returns-in-Err-clause-names c = is_of_file c.args.path.now c.in-Err.e c.file_error.result c.file_error.ensures.message
