use Rattle.std.proofs.Common.{◌≡◌, ◌∙◌, ap, subst, sym}
use Rattle.rustsec_lock.specs.Package.{PackageValue}
use Rattle.rustsec_registry.specs.Lookups.{at}
use Rattle.rustsec_registry.proofs.Entries.{at_insert}
use Rattle.rustsec_registry.specs.index.IndexFolder.{IsAnswer}
use Rattle.rustsec_registry.proofs.index.Readings.{added-before, added-now, none-there, some-there}
use Rattle.rustsec_registry.proofs.index.folder.add.Goals as goal

pub returns-then-is_some-clause-added : goal.returns-then-is_some-clause-added
returns-then-is_some-clause-added g c =
    let named : c.package.inside.name ≡ c.args.package.now.name = ap (λ (p : PackageValue). p.name) c.package.view_is in
    let there = some-there _ _ _ _ (ap (λ n. at n c.args.answers.now) (sym named)) c.at.ensures c.is_some.ensures c.if-is_some.true in
    added-before _ c.args.place.now c.args.package.now.name c.args.answers.now there.0 there.1

pub returns-clause-added : goal.returns-clause-added
returns-clause-added g c =
    let named : c.package.inside.name ≡ c.args.package.now.name = ap (λ (p : PackageValue). p.name) c.package.view_is in
    let name = c.in_ok-name.ensures.ok ∙ named in
    added-now (g.F.Folders.allowed c.args.folders.now) c.args.place.now c.args.package.now.name c.args.answers.now c.insert.new.self c.in_ok-answer.answer
    (λ q. rw (c.in_ok-insert.ensures.ok, name) (at_insert c.args.answers.now q c.args.package.now.name c.in_ok-answer.answer))
    (none-there _ _ _ _ (ap (λ n. at n c.args.answers.now) (sym named)) c.at.ensures c.is_some.ensures c.if-is_some.false)
    (subst (λ n. IsAnswer (g.F.Folders.allowed c.args.folders.now) c.args.place.now n c.in_ok-answer.answer) (c.as_str.ensures.text ∙ named) c.in_ok-answer.ensures.ok)
