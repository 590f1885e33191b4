use Rattle.std.proofs.Common.{inr}
use Rattle.std.proofs.lemmas.Result.{IfErr-weaker, IfOk-weaker}
use Rattle.rustsec_values.proofs.Refusals.{refused_by}
use Rattle.rustsec_files.proofs.Same.{all-listed, below-found, collection-found}
use Rattle.rustsec_files.proofs.listing.paths_of_collection.Goals as goal

pub returns-clause-ok : goal.returns-clause-ok
returns-clause-ok g c =
    IfOk-weaker c.paths_of_packages.result _ _
    (λ v h. collection-found _ _ c.args.collection.now c.in_ok-names.names.items c.deref.result.now v.items (all-listed g.F.Folders.listed _ _ c.folders_in.ensures.same) c.in_ok-names.ensures.ok
    c.deref.ensures.value h) c.paths_of_packages.ensures.ok

pub returns-clause-err : goal.returns-clause-err
returns-clause-err g c =
    IfErr-weaker c.paths_of_packages.result _ _
    (λ e h. refused_by _ e (λ f. inr (below-found _ _ c.args.collection.now c.in_ok-names.names.items c.deref.result.now (all-listed g.F.Folders.listed _ _ c.folders_in.ensures.same)
    c.in_ok-names.ensures.ok c.deref.ensures.value f)) h) c.paths_of_packages.ensures.err
