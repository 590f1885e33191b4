use Rattle.std.proofs.Common.{Some, true, ◌∙◌, ap}
use Rattle.rustsec_files.specs.Names.{under}
use Rattle.rustsec_files.proofs.Same.{same-trans}
use Rattle.rustsec_registry.proofs.index.Ways.{listed-later, missing-later, shows-at, shows-before}
use Rattle.rustsec_registry.proofs.index.place.is_missing.Goals as goal

pub loop-name-preserved : goal.loop-name-preserved
loop-name-preserved g c =
    let a = g.F.Folders.allowed c.args.folders.now in
    let next = c.in_ok-folder-2.ensures ∙ (λ i. under (c.as_str-in-loop-name.ensures i) (c.as_str-in-loop-name-2.ensures i)) in
    let now = g.F.Folders.allowed c.loop-name.folders in
    let shown = shows-before a now c.loop-name.folder c.name-item.result (Some true) c.loop-name.invariant.same
    (shows-at now c.as_str.result.now c.loop-name.folder c.name-item.result _ (Some true) c.as_str.ensures (c.in-Some-true.is ∙ ap Some c.in-Some-true.field-0-test) c.in_ok-shows.ensures.ok) in
    record {
      same = same-trans _ _ _ c.loop-name.invariant.same c.shows.ensures.same;
      missing = λ h. c.loop-name.invariant.missing (missing-later a c.loop-name.folder c.args.path.now c.loop-name.name-index c.name-item.result
          c.loop-name-test.true c.name-item.is c.in_ok-folder-2.folder next shown h);
      listed = λ h. c.loop-name.invariant.listed (listed-later a c.loop-name.folder c.args.path.now c.loop-name.name-index c.name-item.result
          c.loop-name-test.true c.name-item.is c.in_ok-folder-2.folder next shown h);
    }
