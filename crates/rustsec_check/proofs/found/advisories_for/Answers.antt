use Rattle.std.proofs.Common.{◌∙◌, ap, map, sym}
use Rattle.rustsec_check.proofs.Packages.{finds-none}
use Rattle.rustsec_check.proofs.found.advisories_for.Goals as goal

pub returns-then-not-is_audited : goal.returns-then-not-is_audited
returns-then-not-is_audited c =
    ap (map (λ a. a.now)) c.new.ensures.items
    ∙ sym (finds-none c.args.database.now c.args.query.now c.args.«package».now (sym c.is_audited.ensures ∙ c.if-not-is_audited.true))
