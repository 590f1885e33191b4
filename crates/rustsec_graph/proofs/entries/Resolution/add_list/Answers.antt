use Rattle.std.proofs.Common.{◌≡◌, ◌∙◌, ◌++◌, ◌∷◌, OnOk, [], List, ap, subst, ℕ}
use Rattle.rustsec_graph.specs.Edges.{targets_of_array, unnamed_by, unresolved_of_array}
use Rattle.rustsec_graph.specs.Entries.{named_by}
use Rattle.rustsec_graph.proofs.Lists.{entries-are}
use Rattle.rustsec_graph.proofs.entries.Resolution.add_list.Goals as goal

pub returns-in-Some-clause-targets : goal.returns-in-Some-clause-targets
returns-in-Some-clause-targets c =
    let cs = c.args.index.now in
    subst (λ (xs : List ℕ). OnOk c.add_all.result (c.add_all.new.self.targets ≡ c.args.self.now.targets ++ xs))
    (entries-are (named_by cs) c.in-Some.entries.now.items c.as_slice.result.now c.as_slice.ensures.value ∙ ap (targets_of_array cs) c.in-Some.ensures)
    c.add_all.ensures.targets

pub returns-in-Some-clause-unresolved : goal.returns-in-Some-clause-unresolved
returns-in-Some-clause-unresolved c =
    let cs = c.args.index.now in
    subst (λ (xs : List (List ℕ)). OnOk c.add_all.result (c.add_all.new.self.unresolved ≡ c.args.self.now.unresolved ++ xs))
    (entries-are (unnamed_by cs) c.in-Some.entries.now.items c.as_slice.result.now c.as_slice.ensures.value ∙ ap (unresolved_of_array cs) c.in-Some.ensures)
    c.add_all.ensures.unresolved

pub returns-in_ok-from_str-in-None-clause-unresolved : goal.returns-in_ok-from_str-in-None-clause-unresolved
returns-in_ok-from_str-in-None-clause-unresolved c =
    let cs = c.args.index.now in
    subst (λ (xs : List (List ℕ)). OnOk c.push.result (c.push.new.self ≡ c.args.self.now.unresolved ++ xs))
    (ap (λ t. t ∷ []) c.in_ok-from_str-in-None.ensures ∙ ap (unresolved_of_array cs) c.in-None.ensures) c.push.ensures.ok
