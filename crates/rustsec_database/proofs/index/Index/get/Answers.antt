use Rattle.std.proofs.Common.{◌∙◌, Some, ap, subst, sym}
use Rattle.rustsec_database.specs.Slots.{Rises, where_any}
use Rattle.rustsec_database.proofs.NameSlots.{found-slots, no-slots, rise-found}
use Rattle.rustsec_database.proofs.Slots.{where-some}
use Rattle.rustsec_database.proofs.index.Index.get.Goals as goal

pub returns-in-Some-clause-slots : goal.returns-in-Some-clause-slots
returns-in-Some-clause-slots c =
    let rise = rise-found c.args.key.now c.self.inside.slots c.in-Some.slots.now c.self.invariant c.in-Some.ensures.value in
    ap Some c.as_slice.ensures.value ∙ (sym (where-some c.in-Some.slots.now.items rise.1)
    ∙ ap where_any (sym (found-slots c.args.key.now c.self.inside.slots c.args.self.now c.in-Some.slots.now c.self.view_is c.in-Some.ensures.value)))

pub returns-in-Some-clause-rising : goal.returns-in-Some-clause-rising
returns-in-Some-clause-rising c =
    subst Rises (sym c.as_slice.ensures.value) (rise-found c.args.key.now c.self.inside.slots c.in-Some.slots.now c.self.invariant c.in-Some.ensures.value).0

pub returns-in-None-clause-slots : goal.returns-in-None-clause-slots
returns-in-None-clause-slots c =
    sym (ap where_any (no-slots c.args.key.now c.self.inside.slots c.args.self.now c.self.view_is c.in-None.ensures.value))
