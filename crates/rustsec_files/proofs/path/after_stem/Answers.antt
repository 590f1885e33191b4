use Rattle.rustsec_files.proofs.FileNames.{named}
use Rattle.rustsec_files.proofs.path.after_stem.Goals as goal

pub returns : goal.returns
returns c = named _ _ c.strip_prefix.result c.strip_prefix.ensures.cases
