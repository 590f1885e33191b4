use Rattle.std.proofs.Common.{◌∙◌, codes, refl, sym}
use Rattle.std.proofs.lemmas.Str.Pattern.{starts_text}
use Rattle.rustsec_texts.proofs.id_kind.IdKind.detect.Goals as goal

pub returns-else-starts_with-4 : goal.returns-else-starts_with-4
returns-else-starts_with-4 c =
    let text = c.args.text.now in
    let rustsec = sym (starts_text _ (codes "RUSTSEC-") text c.starts_with.ensures.cases) ∙ c.if-starts_with.false in
    let cve = sym (starts_text _ (codes "CVE-") text c.starts_with-else-starts_with.ensures.cases) ∙ c.if-starts_with-2.false in
    let talos = sym (starts_text _ (codes "TALOS-") text c.starts_with-else-starts_with-2.ensures.cases) ∙ c.if-starts_with-3.false in
    let ghsa = sym (starts_text _ (codes "GHSA-") text c.starts_with-else-starts_with-3.ensures.cases) ∙ c.if-starts_with-4.false in
    rw (rustsec, cve, talos, ghsa) refl
