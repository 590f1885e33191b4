use Rattle.std.proofs.Common.{◌∙◌, inl, length, map-id, rules, sym}
use Rattle.std.proofs.lemmas.Iterator.Adapters.{YieldsList-from_vec}
use Rattle.std.proofs.lemmas.Iterator.Consumers.{YieldsList-end, YieldsList-turn}
use Rattle.std.proofs.lemmas.Result.{err_from_is_err_and}
use Rattle.rustsec_files.specs.Allowed.{read_from}
use Rattle.rustsec_files.proofs.Same.{same-refl, same-trans}
use Rattle.rustsec_values.proofs.Refusals.{refused_by}
use Rattle.rustsec_database.specs.Kept.{IsKeptLoadOf}
use Rattle.rustsec_database.proofs.KeptFiles.{keep-none, kept-paths, kept-refused}
use Rattle.rustsec_database.proofs.Opening.{file-fails, load-step, read-same}
use Rattle.rustsec_database.proofs.keeping.keep_paths.Goals as goal

pub loop-path-init : goal.loop-path-init
loop-path-init g c = record {
  same = same-refl _;
  load = keep-none (g.T.Predicate.holds c.args.test.now) (read_from g.F.Folders.opened (g.F.Folders.allowed c.args.folders.now)) c.args.paths c.empty.result c.empty.ensures;
}

pub loop-path-preserved : goal.loop-path-preserved
loop-path-preserved g c = record {
  same = same-trans _ _ _ c.loop-path.invariant.same c.read.ensures.same;
  load = load-step (IsKeptLoadOf (g.T.Predicate.holds c.args.test.now)) _ (read_from g.F.Folders.opened (g.F.Folders.allowed c.loop-path.folders)) c.loop-path.yielded c.in-Some.path c.as_str.result.now
      c.as_str-in-loop-path.result.now c.as_str-in-loop-path-2.result.now c.in_ok-text.text c.loop-path.loaded c.keep_next-loaded.result
      (read-same g.F.Folders.opened _ _ c.loop-path.invariant.same) c.as_str.ensures c.as_str-in-loop-path.ensures c.as_str-in-loop-path-2.ensures
      c.loop-path.invariant.load (c.in_ok-text.ensures.ok, c.in_ok-text.ensures.opened) c.keep_next-loaded.ensures;
}

pub returns-in_err-text-clause-err : goal.returns-in_err-text-clause-err
returns-in_err-text-clause-err g c =
    let whole = YieldsList-from_vec {s = c.into_iter-path-iterator.result} c.args.paths (search rules) (search rules) in
    let turn = YieldsList-turn whole c.loop-path.yielded c.loop-path.path-iterator c.loop-path.yielded_by c.next.result c.next.new.self c.in-Some.path c.in-Some.is c.next.ensures.steps in
    let p = err_from_is_err_and c.from_residual.result c.from_residual.ensures.1 in
    rw (p.1, p.2) (inl (refused_by _ c.in_err-text.field-0.0
    (λ h. file-fails _ (read_from g.F.Folders.opened (g.F.Folders.allowed c.loop-path.folders)) c.args.paths c.in-Some.path c.as_str.result.now
    (read-same g.F.Folders.opened _ _ c.loop-path.invariant.same) (length c.loop-path.yielded, turn.0, sym turn.1) c.as_str.ensures (h, tt)) c.in_err-text.ensures.err))

pub returns-in_err-text-clause-same : goal.returns-in_err-text-clause-same
returns-in_err-text-clause-same g c = same-trans _ _ _ c.loop-path.invariant.same c.read.ensures.same

pub returns-clause-ok : goal.returns-clause-ok
returns-clause-ok g c =
    let whole = YieldsList-from_vec {s = c.into_iter-path-iterator.result} c.args.paths (search rules) (search rules) in
    let all = (YieldsList-end whole c.loop-path.yielded c.loop-path.path-iterator c.loop-path.yielded_by c.next.result c.next.new.self c.in-None.is c.next.ensures.steps).0 in
    kept-paths (g.T.Predicate.holds c.args.test.now) (read_from g.F.Folders.opened (g.F.Folders.allowed c.args.folders.now)) _ c.args.paths c.loop-path.loaded
    (sym (map-id c.loop-path.yielded) ∙ all) c.loop-path.invariant.load

pub returns-clause-err : goal.returns-clause-err
returns-clause-err g c =
    let whole = YieldsList-from_vec {s = c.into_iter-path-iterator.result} c.args.paths (search rules) (search rules) in
    let all = (YieldsList-end whole c.loop-path.yielded c.loop-path.path-iterator c.loop-path.yielded_by c.next.result c.next.new.self c.in-None.is c.next.ensures.steps).0 in
    kept-refused (g.T.Predicate.holds c.args.test.now) (read_from g.F.Folders.opened (g.F.Folders.allowed c.args.folders.now)) _ c.args.paths c.loop-path.loaded
    (sym (map-id c.loop-path.yielded) ∙ all) c.loop-path.invariant.load
