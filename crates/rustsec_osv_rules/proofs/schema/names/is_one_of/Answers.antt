use Rattle.std.proofs.Common.{◌≡◌, ◌∙◌, subst, sym, true}
use Rattle.std.specs.Str.{bytes_eq}
use Rattle.rustsec_osv_rules.proofs.schema.Folds.{any_at}
use Rattle.rustsec_osv_rules.proofs.schema.names.is_one_of.Goals as goal

pub returns-then-eq : goal.returns-then-eq
returns-then-eq c =
    sym (any_at (λ n. n.now) (bytes_eq c.args.text.now) c.args.names.now c.loop-name.name-index _ c.loop-name-test.true
    (subst (λ t. bytes_eq c.args.text.now t ≡ true) c.as_bytes.ensures.value (sym c.eq.ensures ∙ c.if-eq.true)))
