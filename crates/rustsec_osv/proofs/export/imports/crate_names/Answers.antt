use Rattle.std.proofs.Common.{◌++◌, ◌∙◌, ◌∷◌, [], List, ℕ, ap, sym}
use Rattle.rustsec_osv.specs.Imports.{crate_names}
use Rattle.rustsec_osv.proofs.Links.{names-more}
use Rattle.rustsec_osv.proofs.export.imports.crate_names.Goals as goal

pub loop-member-preserved : goal.loop-member-preserved
loop-member-preserved c =
    c.in_ok-add_name.ensures ∙ ap (λ (ns : List (List ℕ)). ns ++ crate_names (c.member-item.result ∷ [])) c.loop-member.invariant
    ∙ sym (names-more c.args.members.now c.loop-member.member-index c.member-item.result c.loop-member-test.true c.member-item.is)
