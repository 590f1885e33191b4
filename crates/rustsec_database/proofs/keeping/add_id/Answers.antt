use Rattle.std.proofs.Common.{◌∙◌, ap, not, subst, true}
use Rattle.std.specs.HashSet.{Updates}
use Rattle.std.specs.List.{list_any}
use Rattle.rustsec_texts.specs.IdOrder.{id_eq}
use Rattle.rustsec_texts.specs.Ids.{IdValue}
use Rattle.rustsec_database.proofs.KeptFiles.{more-among}
use Rattle.rustsec_database.proofs.keeping.add_id.Goals as goal

pub returns-clause-fresh : goal.returns-clause-fresh
returns-clause-fresh c =
    let id = c.in_ok-id.ensures in
    c.in_ok-fresh.ensures.added
    ∙ ap not (ap (λ (i : IdValue). list_any (id_eq i) c.args.ids.now.keys) id)

pub returns-clause-among : goal.returns-clause-among
returns-clause-among c =
    more-among c.args.id.now c.args.ids.now c.insert.new.self
    (subst (λ (i : IdValue). Updates id_eq c.args.ids.now c.insert.new.self i true) c.in_ok-id.ensures c.in_ok-fresh.ensures.updates)
