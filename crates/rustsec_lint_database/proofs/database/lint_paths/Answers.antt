use Rattle.rustsec_files.proofs.Same.{same-trans}
use Rattle.rustsec_lint_database.proofs.Firsts.{linted-more, table-of}
use Rattle.rustsec_lint_database.proofs.database.lint_paths.Goals as goal

pub lint_next-requires : goal.lint_next-requires
lint_next-requires g c = table-of _ _ _ c.loop-path.linting.firsts c.loop-path.invariant.files

pub loop-path-preserved : goal.loop-path-preserved
loop-path-preserved g c = record {
  same = same-trans _ _ _ c.loop-path.invariant.same c.lint_next.ensures.same;
  files = linted-more _ (g.F.Folders.allowed c.loop-path.folders) c.args.paths.now c.loop-path.path-index c.path-item.result c.as_str.result.now _ _ c.loop-path.linting.firsts _
      c.loop-path.invariant.same c.loop-path-test.true c.path-item.is c.as_str.ensures c.loop-path.invariant.files c.in_ok-notes.ensures.ok;
}
