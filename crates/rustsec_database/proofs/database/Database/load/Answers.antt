use Rattle.std.proofs.Common.{◌∙◌, List, subst, sym}
use Rattle.std.proofs.lemmas.List.{take_all}
use Rattle.std.proofs.lemmas.Result.{err_from_is_err_and}
use Rattle.rustsec_files.specs.declared.source_file.SourceFile.{SourceFile}
use Rattle.rustsec_database.specs.Loaded.{AreLoaded, IsAdded, IsFault}
use Rattle.rustsec_database.proofs.Files.{at-file, first-fault, loaded-step}
use Rattle.rustsec_database.proofs.Once.{fault-excludes, loaded-once}
use Rattle.rustsec_database.proofs.database.Database.load.Goals as goal

pub returns-in_err-entries-clause-err : goal.returns-in_err-entries-clause-err
returns-in_err-entries-clause-err c =
    let p = err_from_is_err_and c.from_residual.result c.from_residual.ensures.1 in
    rw (p.1, p.2) (first-fault c.args.files.now c.loop-file.file-index c.file-item.result c.loop-file.entries c.in_err-entries.field-0.0
    c.loop-file-test.true c.file-item.is c.loop-file.invariant
    (at-file (λ path text. IsFault c.loop-file.entries path text c.in_err-entries.field-0.0) _ _ _ _ c.as_str.ensures c.as_str-in-loop-file.ensures
    c.in_err-entries.ensures.err))

pub returns-in_err-entries-clause-none : goal.returns-in_err-entries-clause-none
returns-in_err-entries-clause-none c =
    let p = err_from_is_err_and c.from_residual.result c.from_residual.ensures.1 in
    rw (p.1, p.2) (fault-excludes c.args.files.now c.in_err-entries.field-0.0
    (first-fault c.args.files.now c.loop-file.file-index c.file-item.result c.loop-file.entries c.in_err-entries.field-0.0
    c.loop-file-test.true c.file-item.is c.loop-file.invariant
    (at-file (λ path text. IsFault c.loop-file.entries path text c.in_err-entries.field-0.0) _ _ _ _ c.as_str.ensures c.as_str-in-loop-file.ensures
    c.in_err-entries.ensures.err)))

pub returns-clause-only : goal.returns-clause-only
returns-clause-only c other h =
    let all = take_all c.loop-file.file-index c.args.files.now c.loop-file-test.false in
    loaded-once c.args.files.now other c.loop-file.entries h
    (subst (λ (fs : List SourceFile). AreLoaded fs c.loop-file.entries) all c.loop-file.invariant)
    ∙ sym c.in_ok-database.ensures.ok

pub loop-file-preserved : goal.loop-file-preserved
loop-file-preserved c =
    loaded-step c.args.files.now c.loop-file.file-index c.file-item.result c.loop-file.entries c.in_ok-entries.entries
    c.in_ok-entries.ensures.ok.0 c.loop-file-test.true c.file-item.is c.loop-file.invariant
    (at-file (λ path text. IsAdded c.loop-file.entries path text c.in_ok-entries.ensures.ok.0 c.in_ok-entries.entries) _ _ _ _ c.as_str.ensures
    c.as_str-in-loop-file.ensures c.in_ok-entries.ensures.ok.1)
