use Rattle.std.proofs.lemmas.Result.{err_from_is_err_and}
use Rattle.rustsec_values.proofs.Refusals.{refused_by}
use Rattle.rustsec_files.specs.Seen.{listed_from}
use Rattle.rustsec_files.proofs.Same.{all-listed, folder-fails, folders-step, same-trans}
use Rattle.rustsec_files.proofs.listing.paths_of_packages.Goals as goal

pub returns-in_err-part-clause-err : goal.returns-in_err-part-clause-err
returns-in_err-part-clause-err g c =
    let p = err_from_is_err_and c.from_residual.result c.from_residual.ensures.1 in
    rw (p.1, p.2) (refused_by _ c.in_err-part.field-0.0
    (folder-fails _ (listed_from g.F.Folders.listed (g.F.Folders.allowed c.loop-name.folders)) c.args.collection.now c.args.names.now c.loop-name.name-index c.name-item.result c.as_str.result.now
    (all-listed g.F.Folders.listed _ _ c.loop-name.invariant.same) c.loop-name-test.true c.name-item.is c.as_str.ensures) c.in_err-part.ensures.err)

pub loop-name-preserved : goal.loop-name-preserved
loop-name-preserved g c = record {
  same = same-trans _ _ _ c.loop-name.invariant.same c.paths_of_package.ensures.same;
  all = rw c.in_ok-append.ensures.items
      (folders-step _ (listed_from g.F.Folders.listed (g.F.Folders.allowed c.loop-name.folders)) c.args.collection.now c.args.names.now c.loop-name.paths.items c.in_ok-part.part.items
      c.loop-name.name-index c.name-item.result c.as_str.result.now (all-listed g.F.Folders.listed _ _ c.loop-name.invariant.same) c.loop-name-test.true c.name-item.is c.as_str.ensures
      c.loop-name.invariant.all c.in_ok-part.ensures.ok);
}
