use Rattle.std.proofs.Common.{◌∙◌, ◌++◌, ap, map, sym}
use Rattle.std.proofs.lemmas.List.{append-nil}
use Rattle.std.proofs.lemmas.Result.{on_ok_weaker}
use Rattle.rustsec_database.proofs.Pairs.{as_pair, found-pairs, no-pairs}
use Rattle.rustsec_database.proofs.database.Database.query_package.Goals as goal

pub returns-then-not-is_audited : goal.returns-then-not-is_audited
returns-then-not-is_audited c =
    sym (ap (λ xs. c.args.pairs.now.items ++ xs)
    (no-pairs c.args.self.now c.args.query.now c.args.«package».now (sym c.is_audited.ensures ∙ c.if-not-is_audited.true)) ∙ append-nil _)

pub returns : goal.returns
returns c =
    let p = c.args.«package».now in
    on_ok_weaker c.push_pairs.result
    (λ e. e ∙ ap (λ xs. c.args.pairs.now.items ++ map (as_pair p) xs) (ap (map (λ a. a.now)) c.deref.ensures.value)
    ∙ ap (λ xs. c.args.pairs.now.items ++ xs)
    (found-pairs c.args.self.now c.args.query.now p c.in_ok-found.found.items (sym c.is_audited.ensures ∙ c.if-not-is_audited.false) c.in_ok-found.ensures))
    c.push_pairs.ensures
