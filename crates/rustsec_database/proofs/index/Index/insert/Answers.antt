use Rattle.std.proofs.Common.{◌≡◌, ◌∙◌, ◌<◌, length, ap, cond, false, nat_eq, not, refl, rules, subst, sym}
use Rattle.std.specs.Cmp.Lexicographic.{pointwise}
use Rattle.std.specs.List.{list_any}
use Rattle.rustsec_database.specs.Indexes.{shown}
use Rattle.rustsec_database.specs.Slots.{Rises, slots_at, with_slot}
use Rattle.rustsec_database.proofs.NameSlots.{found-slots, is-there, no-slots, on-err, put-seen, rise-found, rise-updated, slots_of, written}
use Rattle.rustsec_database.proofs.Slots.{rises-with, with_slot-some}
use Rattle.rustsec_database.proofs.index.Index.insert.Goals as goal

pub add-requires : goal.add-requires
add-requires c = (rise-found c.args.key.now c.self.inside.slots c.in-Some.slots.now c.self.invariant c.in-Some.ensures.value).0

pub invariant_of-self : goal.invariant_of-self
invariant_of-self c =
    let m = c.self.inside.slots in
    let rise = rise-found c.args.key.now m c.in-Some.slots.now c.self.invariant c.in-Some.ensures.value in
    let there = is-there c.in-Some.slots.now _ c.in-Some.ensures.value in
    let same = c.in_err-fresh-in-Some.ensures.err in
    rise-updated m (c.get_mut.follows.lender c.add.new.slots) c.args.key.now c.add.new.slots ((c.get_mut.follows.holds c.add.new.slots).3 there)
    (subst Rises (sym same) rise.0) (subst (λ xs. 0 < length xs) (sym same) rise.1) c.self.invariant

pub returns-in_err-fresh-in-Some-clause-kept : goal.returns-in_err-fresh-in-Some-clause-kept
returns-in_err-fresh-in-Some-clause-kept c =
    on-err c.from_residual.result
    (ap shown (c.get_mut.follows.holds c.add.new.slots).0
    ∙ (written _ c.self.inside.slots.entries c.add.new.slots (sym (ap slots_of c.in-Some.ensures.value) ∙ sym c.in_err-fresh-in-Some.ensures.err) ∙ c.self.view_is))

pub invariant_of-self-in-Some : goal.invariant_of-self-in-Some
invariant_of-self-in-Some c =
    let m = c.self.inside.slots in
    let rise = rise-found c.args.key.now m c.in-Some.slots.now c.self.invariant c.in-Some.ensures.value in
    let there = is-there c.in-Some.slots.now _ c.in-Some.ensures.value in
    let are = c.in_ok-fresh-in-Some.ensures.ok in
    rise-updated m (c.get_mut.follows.lender c.add.new.slots) c.args.key.now c.add.new.slots ((c.get_mut.follows.holds c.add.new.slots).3 there)
    (subst Rises (sym are) (rises-with c.args.slot c.in-Some.slots.now.items rise.0))
    (subst (λ xs. 0 < length xs) (sym are) (with_slot-some c.args.slot c.in-Some.slots.now.items)) c.self.invariant

pub returns-in_ok-fresh-in-Some-clause-fresh : goal.returns-in_ok-fresh-in-Some-clause-fresh
returns-in_ok-fresh-in-Some-clause-fresh c =
    c.in_ok-fresh-in-Some.ensures.fresh ∙ ap (λ xs. not (list_any (nat_eq c.args.slot) xs))
    (sym (found-slots c.args.key.now c.self.inside.slots c.args.self.now c.in-Some.slots.now c.self.view_is c.in-Some.ensures.value))

pub returns-in_ok-fresh-in-Some-clause-slots : goal.returns-in_ok-fresh-in-Some-clause-slots
returns-in_ok-fresh-in-Some-clause-slots c = λ name.
    let m = c.self.inside.slots in
    let there = is-there c.in-Some.slots.now _ c.in-Some.ensures.value in
    let found = found-slots c.args.key.now m c.args.self.now c.in-Some.slots.now c.self.view_is c.in-Some.ensures.value in
    put-seen m (c.get_mut.follows.lender c.add.new.slots) c.args.key.now c.args.key.now c.add.new.slots
    (with_slot c.args.slot (slots_at c.args.key.now c.args.self.now)) c.args.self.now
    refl (c.in_ok-fresh-in-Some.ensures.ok ∙ ap (with_slot c.args.slot) (sym found)) c.self.view_is ((c.get_mut.follows.holds c.add.new.slots).3 there) name

pub returns-in_ok-insert_first-in-None-clause-fresh : goal.returns-in_ok-insert_first-in-None-clause-fresh
returns-in_ok-insert_first-in-None-clause-fresh c =
    sym (ap (λ xs. not (list_any (nat_eq c.args.slot) xs))
    (no-slots c.args.key.now c.self.inside.slots c.args.self.now c.self.view_is c.in-None.ensures.value))

pub returns-in_ok-insert_first-in-None-clause-slots : goal.returns-in_ok-insert_first-in-None-clause-slots
returns-in_ok-insert_first-in-None-clause-slots c = λ name.
    let none = no-slots c.args.key.now c.self.inside.slots c.args.self.now c.self.view_is c.in-None.ensures.value in
    let view = ap (λ m. shown m.entries) c.get_mut.follows.holds-at-none ∙ c.self.view_is in
    c.in_ok-insert_first-in-None.ensures.ok name
    ∙ (λ i. cond (pointwise nat_eq c.args.key.now name) (with_slot c.args.slot (sym none i)) (slots_at name (view i)))

pub returns-in_err-fresh-in-Some-clause-none : goal.returns-in_err-fresh-in-Some-clause-none
returns-in_err-fresh-in-Some-clause-none c =
    let found = found-slots c.args.key.now c.self.inside.slots c.args.self.now c.in-Some.slots.now c.self.view_is c.in-Some.ensures.value in
    let none : list_any (nat_eq c.args.slot) (slots_at c.args.key.now c.args.self.now) ≡ false =
    ap (list_any (nat_eq c.args.slot)) found ∙ c.in_err-fresh-in-Some.ensures.none in
    search (rules, none)

pub returns-in_err-insert_first-in-None-clause-none : goal.returns-in_err-insert_first-in-None-clause-none
returns-in_err-insert_first-in-None-clause-none c =
    let found = no-slots c.args.key.now c.self.inside.slots c.args.self.now c.self.view_is c.in-None.ensures.value in
    let none : list_any (nat_eq c.args.slot) (slots_at c.args.key.now c.args.self.now) ≡ false =
    ap (list_any (nat_eq c.args.slot)) found in
    search (rules, none)
