use Rattle.std.proofs.Common.{◌∷◌, [], arith, subst, sym}
use Rattle.rustsec_database.specs.Slots.{Rises}
use Rattle.rustsec_database.proofs.NameSlots.{put-seen, rise-updated}
use Rattle.rustsec_database.proofs.Slots.{rises-one}
use Rattle.rustsec_database.proofs.index.Index.insert_first.Goals as goal

pub invariant_of-self-2 : goal.invariant_of-self-2
invariant_of-self-2 c =
    rise-updated c.self.inside.slots c.insert.new.self c.in_ok-key.key c.in_ok-slots.slots c.in_ok-insert.ensures.updates
    (subst Rises (sym c.in_ok-slots.ensures.items) (rises-one c.args.slot)) (rw c.in_ok-slots.ensures.items (omega arith)) c.self.invariant

pub returns-clause-ok : goal.returns-clause-ok
returns-clause-ok c = λ name.
    put-seen c.self.inside.slots c.insert.new.self c.args.key.now c.in_ok-key.key c.in_ok-slots.slots (c.args.slot ∷ []) c.args.self.now
    c.in_ok-key.ensures c.in_ok-slots.ensures.items c.self.view_is c.in_ok-insert.ensures.updates name
