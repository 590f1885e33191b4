use Rattle.std.proofs.lemmas.Str.Pattern.{contains_text}
use Rattle.rustsec_osv.proofs.Parts.{has-is}
use Rattle.rustsec_osv.proofs.export.references.has.Goals as goal

pub returns : goal.returns
returns c = has-is c.contains.result c.args.part.now c.args.text.now (contains_text _ _ _ c.contains.ensures.cases)
