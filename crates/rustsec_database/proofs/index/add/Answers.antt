use Rattle.std.proofs.Common.{◌≡◌, ◌∙◌, false, nat_eq, refl, rules, sym}
use Rattle.std.specs.List.{list_any}
use Rattle.rustsec_database.proofs.Slots.{found-place, found-there, has-there, insert-is, lacks, with_slot-there}
use Rattle.rustsec_database.proofs.index.add.Goals as goal

pub returns-in-Ok-clause-ok : goal.returns-in-Ok-clause-ok
returns-in-Ok-clause-ok c =
    let at = found-there c.as_slice.result.now c.args.slots.now.items c.args.slot c.in-Ok.field-0 c.as_slice.ensures.value c.requires c.in-Ok.ensures.position in
    sym (with_slot-there c.args.slots.now.items c.in-Ok.field-0 c.args.slot c.requires at.0 at.1)

pub returns-in-Ok-clause-fresh : goal.returns-in-Ok-clause-fresh
returns-in-Ok-clause-fresh c =
    let at = found-there c.as_slice.result.now c.args.slots.now.items c.args.slot c.in-Ok.field-0 c.as_slice.ensures.value c.requires c.in-Ok.ensures.position in
    rw (has-there c.args.slots.now.items c.args.slot c.in-Ok.field-0 at.0 at.1) refl

pub returns-in_ok-insert-in-Err-clause-ok : goal.returns-in_ok-insert-in-Err-clause-ok
returns-in_ok-insert-in-Err-clause-ok c =
    let at = found-place c.as_slice.result.now c.args.slots.now.items c.args.slot c.in-Err.place c.as_slice.ensures.value c.requires c.in-Err.ensures.position in
    c.in_ok-insert-in-Err.ensures.items ∙ insert-is c.args.slots.now.items c.in-Err.place c.args.slot at.0 at.1 at.2

pub returns-in_ok-insert-in-Err-clause-fresh : goal.returns-in_ok-insert-in-Err-clause-fresh
returns-in_ok-insert-in-Err-clause-fresh c =
    let at = found-place c.as_slice.result.now c.args.slots.now.items c.args.slot c.in-Err.place c.as_slice.ensures.value c.requires c.in-Err.ensures.position in
    rw (lacks c.args.slots.now.items c.in-Err.place c.args.slot at.1 at.2) refl

pub returns-in_err-insert-in-Err-clause-none : goal.returns-in_err-insert-in-Err-clause-none
returns-in_err-insert-in-Err-clause-none c =
    let at = found-place c.as_slice.result.now c.args.slots.now.items c.args.slot c.in-Err.place c.as_slice.ensures.value c.requires c.in-Err.ensures.position in
    let none : list_any (nat_eq c.args.slot) c.args.slots.now.items ≡ false = lacks c.args.slots.now.items c.in-Err.place c.args.slot at.1 at.2 in
    search (rules, none)
