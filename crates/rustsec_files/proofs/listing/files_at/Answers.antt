use Rattle.rustsec_files.proofs.Same.{files-step, same-trans}
use Rattle.rustsec_files.proofs.listing.files_at.Goals as goal

pub loop-path-preserved : goal.loop-path-preserved
loop-path-preserved g c = record {
  same = same-trans _ _ _ c.loop-path.invariant.same c.file_at.ensures.same;
  each = rw c.in_ok-push.ensures.ok
      (files-step _ (g.F.Folders.allowed c.loop-path.folders) c.loop-path.yielded c.loop-path.files c.in-Some.path c.in_ok-file.file
      c.loop-path.invariant.same c.loop-path.invariant.each c.in_ok-file.ensures.ok);
}
