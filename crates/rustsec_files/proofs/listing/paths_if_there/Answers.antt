use Rattle.std.proofs.Common.{inl}
use Rattle.std.proofs.lemmas.Result.{IfErr-weaker, IfOk-weaker}
use Rattle.rustsec_values.proofs.Refusals.{refused_by}
use Rattle.rustsec_files.proofs.Same.{all-listed, below-found, collection-found}
use Rattle.rustsec_files.proofs.listing.paths_if_there.Goals as goal

pub returns-in-Ok-clause-ok : goal.returns-in-Ok-clause-ok
returns-in-Ok-clause-ok g c =
    IfOk-weaker c.paths_of_packages.result _ _
    (λ v h. inl (collection-found _ _ c.args.collection.now c.in-Ok.names.items c.deref.result.now v.items (all-listed g.F.Folders.listed _ _ c.folders_in.ensures.same) c.in-Ok.ensures.ok
    c.deref.ensures.value h)) c.paths_of_packages.ensures.ok

pub returns-in-Ok-clause-err : goal.returns-in-Ok-clause-err
returns-in-Ok-clause-err g c =
    IfErr-weaker c.paths_of_packages.result _ _
    (λ e h. refused_by _ e (below-found _ _ c.args.collection.now c.in-Ok.names.items c.deref.result.now (all-listed g.F.Folders.listed _ _ c.folders_in.ensures.same)
    c.in-Ok.ensures.ok c.deref.ensures.value) h) c.paths_of_packages.ensures.err
