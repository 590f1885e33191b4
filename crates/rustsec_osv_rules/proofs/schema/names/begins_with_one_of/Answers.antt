use Rattle.std.proofs.Common.{◌≡◌, ◌∙◌, nat_eq, subst, sym, true}
use Rattle.std.specs.List.{starts_with}
use Rattle.rustsec_osv_rules.proofs.schema.Folds.{any_at}
use Rattle.rustsec_osv_rules.proofs.schema.names.begins_with_one_of.Goals as goal

pub returns-then-starts_with : goal.returns-then-starts_with
returns-then-starts_with c =
    sym (any_at (λ p. p.now) (starts_with nat_eq c.args.text.now) c.args.prefixes.now c.loop-prefix.prefix-index _ c.loop-prefix-test.true
    (subst (λ t. starts_with nat_eq c.args.text.now t ≡ true) c.as_bytes.ensures.value (sym c.starts_with.ensures.value ∙ c.if-starts_with.true)))
