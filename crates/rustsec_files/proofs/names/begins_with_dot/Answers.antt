use Rattle.std.proofs.Common.{codes}
use Rattle.std.proofs.lemmas.Str.Pattern.{starts_text}
use Rattle.rustsec_files.proofs.names.begins_with_dot.Goals as goal

pub returns : goal.returns
returns c = starts_text _ (codes ".") c.args.name.now c.starts_with.ensures.cases
