use Rattle.std.proofs.Common.{◌∙◌, None, Some}
use Rattle.std.proofs.lemmas.Result.{err_from_is_err_and}
use Rattle.rustsec_values.proofs.Refusals.{refused_by}
use Rattle.rustsec_files.specs.Seen.{listed_from}
use Rattle.rustsec_files.proofs.Same.{all-listed, all-without, crates-fail, paths-before, paths-found, rust-fails}
use Rattle.rustsec_files.proofs.listing.source_paths.Goals as goal

pub returns-in_err-paths-clause-err : goal.returns-in_err-paths-clause-err
returns-in_err-paths-clause-err g c =
    let allowed = g.F.Folders.allowed c.args.folders.now in
    let p = err_from_is_err_and c.from_residual.result c.from_residual.ensures.1 in
    rw (p.1, p.2) (refused_by _ c.in_err-paths.field-0.0
    (λ f. paths-before allowed (listed_from g.F.Folders.listed allowed) c.args.root.now None (all-without g.F.Folders.listed allowed)
    (crates-fail (listed_from g.F.Folders.listed allowed) c.args.root.now f)) c.in_err-paths.ensures.err)

pub returns-in_err-rust-clause-err : goal.returns-in_err-rust-clause-err
returns-in_err-rust-clause-err g c =
    let allowed = g.F.Folders.allowed c.args.folders.now in
    let p = err_from_is_err_and c.from_residual-in_err-rust.result c.from_residual-in_err-rust.ensures.1 in
    rw (p.1, p.2) (refused_by _ c.in_err-rust.field-0.0
    (λ f. paths-before allowed (listed_from g.F.Folders.listed allowed) c.args.root.now None (all-without g.F.Folders.listed allowed)
    (rust-fails _ _ c.args.root.now (all-listed g.F.Folders.listed _ _ c.paths_of_crates.ensures.same) f)) c.in_err-rust.ensures.err)

pub returns-in_err-rust-clause-listed : goal.returns-in_err-rust-clause-listed
returns-in_err-rust-clause-listed g c =
    let p = err_from_is_err_and c.from_residual-in_err-rust.result c.from_residual-in_err-rust.ensures.1 in
    rw (p.1, p.2) (refused_by _ c.in_err-rust.field-0.0
    (λ f. rust-fails _ _ c.args.root.now (all-listed g.F.Folders.listed _ _ c.paths_of_crates.ensures.same) f) c.in_err-rust.ensures.err)

pub returns-clause-ok : goal.returns-clause-ok
returns-clause-ok g c =
    let allowed = g.F.Folders.allowed c.args.folders.now in
    paths-before allowed (listed_from g.F.Folders.listed allowed) c.args.root.now (Some _) (all-without g.F.Folders.listed allowed)
    (paths-found _ _ c.args.root.now c.in_ok-paths.paths.items c.in_ok-rust.rust.items _
    (all-listed g.F.Folders.listed _ _ c.paths_of_crates.ensures.same) c.in_ok-paths.ensures.ok c.in_ok-rust.ensures.ok
    (c.from.ensures ∙ c.in_ok-append.ensures.items))

pub returns-clause-listed : goal.returns-clause-listed
returns-clause-listed g c =
    paths-found _ _ c.args.root.now c.in_ok-paths.paths.items c.in_ok-rust.rust.items _
    (all-listed g.F.Folders.listed _ _ c.paths_of_crates.ensures.same) c.in_ok-paths.ensures.ok c.in_ok-rust.ensures.ok
    (c.from.ensures ∙ c.in_ok-append.ensures.items)
