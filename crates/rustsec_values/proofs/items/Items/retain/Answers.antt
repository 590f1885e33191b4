use Rattle.std.proofs.Common.{rules, ◌≡◌}
use Rattle.std.proofs.lemmas.Fn.{filter_same}
use Rattle.std.specs.List.{filter}
use Rattle.rustsec_values.proofs.items.Items.retain.Goals as goal

pub returns : goal.returns
returns g c =
    let kept : c.retain.new.self.items ≡ filter (g.P.Predicate.holds c.args.test.now) c.self.inside.vector.items =
    filter_same _ (g.P.Predicate.holds c.args.test.now) _ (λ x b f' t. search rules) _ _ c.retain.ensures.filtered in
    cc (kept, c.self.view_is)
