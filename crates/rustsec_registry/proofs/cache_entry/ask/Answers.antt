use Rattle.std.proofs.Common.{◌≡◌, ◌∙◌, ap, subst, sym}
use Rattle.rustsec_lock.specs.Package.{PackageValue}
use Rattle.rustsec_registry.specs.Lookups.{IsKeptOfSome, at}
use Rattle.rustsec_registry.proofs.Growth.{given-new, grows-new, here-now, none-from, was-given}
use Rattle.rustsec_registry.proofs.cache_entry.ask.Goals as goal

pub returns-clause-grown : goal.returns-clause-grown
returns-clause-grown g c =
    let named : c.package.inside.name ≡ c.args.package.now.name = ap (λ (p : PackageValue). p.name) c.package.view_is in
    grows-new c.args.package.now c.args.kept.now c.keep.new.kept c.in_ok-name.name c.in_ok-answer.answer (c.in_ok-name.ensures.ok ∙ named)
    (ap (λ n. at n c.args.kept.now) (sym named) ∙ none-from _ (sym c.is_kept.ensures ∙ c.if-is_kept.false)) c.in_ok-keep.ensures.ok

pub returns-clause-asked : goal.returns-clause-asked
returns-clause-asked g c =
    let named : c.package.inside.name ≡ c.args.package.now.name = ap (λ (p : PackageValue). p.name) c.package.view_is in
    here-now c.args.package.now.name c.in_ok-name.name c.args.kept.now c.keep.new.kept c.in_ok-answer.answer (c.in_ok-name.ensures.ok ∙ named)
    c.in_ok-keep.ensures.ok

pub returns-clause-given : goal.returns-clause-given
returns-clause-given g c =
    let named : c.package.inside.name ≡ c.args.package.now.name = ap (λ (p : PackageValue). p.name) c.package.view_is in
    given-new (g.I.Lookup.answers c.args.index.now) c.args.package.now.name c.in_ok-name.name c.args.kept.now c.keep.new.kept c.in_ok-answer.answer
    (c.in_ok-name.ensures.ok ∙ named) c.in_ok-keep.ensures.ok
    (subst (λ n. IsKeptOfSome (g.I.Lookup.answers c.args.index.now n) c.in_ok-answer.answer) named
    (was-given (g.I.Lookup.answers c.args.index.now c.package.inside.name) c.krate.result c.in_ok-answer.answer c.krate.ensures.ok c.krate.ensures.err c.in_ok-answer.ensures.ok))
