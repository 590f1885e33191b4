use Rattle.std.proofs.Common.{◌≡◌, ◌∙◌, ◌++◌, ◌∷◌, [], ap, false, inl, length, List, rules, subst, sym, true}
use Rattle.rustsec_advisory.specs.declared.advisory.Advisory.{Advisory}
use Rattle.rustsec_database.specs.Loaded.{HaveOwnIds, is_known}
use Rattle.rustsec_database.specs.Places.{IsTableOf}
use Rattle.rustsec_database.proofs.Files.{own-more}
use Rattle.rustsec_database.proofs.Tables.{known-in-table, new-in-table, table-more}
use Rattle.rustsec_database.proofs.entries.Entries.store.Goals as goal

pub returns-then-not-branch-clause-err : goal.returns-then-not-branch-clause-err
returns-then-not-branch-clause-err c =
    let old : c.in_ok-put_new.field-0 ≡ false = search rules in
    let known = known-in-table c.self.inside.advisories.items c.args.advisory c.in_ok-id.id c.self.inside.slots c.in_ok-id.ensures c.self.invariant.0
    (c.in_ok-put_new.ensures.known old).0 in
    inl (subst (λ (l : List Advisory). is_known l c.args.advisory ≡ true) c.self.view_is known, c.duplicate_error.ensures)

pub invariant_of-self-2 : goal.invariant_of-self-2
invariant_of-self-2 c =
    let stored = c.self.inside.advisories.items in
    let new : c.in_ok-put_new.field-0 ≡ true = search rules in
    let put = c.in_ok-put_new.ensures.fresh new in
    let fresh = new-in-table stored c.args.advisory c.in_ok-id.id c.self.inside.slots c.in_ok-id.ensures c.self.invariant.0 put.0 in
    let pushed : c.push.new.self.items ≡ c.reserve.new.self.items ++ c.args.advisory ∷ [] = search rules in
    let are = pushed ∙ ap (λ l. l ++ c.args.advisory ∷ []) c.in_ok-reserve.ensures.items in
    let at = c.new-slot.ensures ∙ ap length c.as_slice.ensures.value in
    subst (λ (l : List Advisory). IsTableOf l c.put_new.new.slots × HaveOwnIds l) (sym are) (
      table-more stored c.args.advisory c.in_ok-id.id c.self.inside.slots c.put_new.new.slots c.new-slot.result c.in_ok-id.ensures at put.1 fresh
          c.self.invariant.0,
      own-more true stored c.args.advisory (λ _. fresh) c.self.invariant.1,
    )

pub returns-clause-ok : goal.returns-clause-ok
returns-clause-ok c =
    let new : c.in_ok-put_new.field-0 ≡ true = search rules in
    let fresh = new-in-table c.self.inside.advisories.items c.args.advisory c.in_ok-id.id c.self.inside.slots c.in_ok-id.ensures c.self.invariant.0
    (c.in_ok-put_new.ensures.fresh new).0 in
    (subst (λ (l : List Advisory). is_known l c.args.advisory ≡ false) c.self.view_is fresh, search rules)
