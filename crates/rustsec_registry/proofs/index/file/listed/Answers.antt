use Rattle.std.proofs.Common.{◌∙◌, ◌++◌, ◌∷◌, [], ap, rules, sym}
use Rattle.rustsec_registry.specs.index.IndexFile.{versions_said}
use Rattle.rustsec_registry.proofs.index.Entries.{entries-push, said-push}
use Rattle.rustsec_registry.proofs.index.file.listed.Goals as goal

pub loop-rest-preserved : goal.loop-rest-preserved
loop-rest-preserved c =
    let before = c.loop-rest.invariant.1 in (
      c.after_entry-rest.utf8,
      (
        before.0 ++ c.in-Some.said ∷ [],
        rw c.after_entry-rest.ensures
            (entries-push c.args.form c.args.name.now c.args.text.now before.0 c.loop-rest.rest.now c.in-Some.said before.1 (search rules)
            (sym c.in_ok-said.ensures ∙ c.in-Some.is)),
        c.in_ok-push_said.ensures ∙ ap (λ vs. vs ++ versions_said (c.in-Some.said ∷ [])) before.2 ∙ sym (said-push before.0 c.in-Some.said),
      ),
    )
