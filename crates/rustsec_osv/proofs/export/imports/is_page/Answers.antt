use Rattle.std.specs.Prelude.{codes}
use Rattle.std.proofs.lemmas.Str.Pattern.{starts_text}
use Rattle.rustsec_osv.proofs.export.imports.is_page.Goals as goal

pub returns : goal.returns
returns c = starts_text c.starts_with.result (codes "https://rustsec.org/advisories/") c.args.address.now c.starts_with.ensures.cases
