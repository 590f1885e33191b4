use Rattle.std.proofs.Common.{◌∙◌, ap, subst}
use Rattle.std.specs.List.{position_from}
use Rattle.rustsec_database.specs.Loaded.{HaveOwnIds, has_id}
use Rattle.rustsec_database.proofs.OnlyWithId.{only_found}
use Rattle.rustsec_database.proofs.Places.{found-at, none-at}
use Rattle.rustsec_database.proofs.entries.Entries.find_by_id.Goals as goal

pub returns-in-Some-clause-found : goal.returns-in-Some-clause-found
returns-in-Some-clause-found c =
    let test = has_id c.args.id.now in
    c.get-in-Some.ensures ∙ found-at test c.in-Some.slot.now c.args.self.now
    (c.in-Some.ensures.value ∙ (c.self.invariant.0 c.args.id.now ∙ ap (position_from test 0) c.self.view_is))

pub returns-in-Some-clause-only : goal.returns-in-Some-clause-only
returns-in-Some-clause-only c =
    let test = has_id c.args.id.now in
    only_found c.args.id.now c.args.self.now c.get-in-Some.result
    (c.get-in-Some.ensures ∙ found-at test c.in-Some.slot.now c.args.self.now
    (c.in-Some.ensures.value ∙ (c.self.invariant.0 c.args.id.now ∙ ap (position_from test 0) c.self.view_is)))
    (subst HaveOwnIds c.self.view_is c.self.invariant.1)

pub returns-in-None-clause-found : goal.returns-in-None-clause-found
returns-in-None-clause-found c =
    let test = has_id c.args.id.now in
    none-at test 0 c.args.self.now (c.in-None.ensures.value ∙ (c.self.invariant.0 c.args.id.now ∙ ap (position_from test 0) c.self.view_is))
