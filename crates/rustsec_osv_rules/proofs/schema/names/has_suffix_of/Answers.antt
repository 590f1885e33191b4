use Rattle.std.proofs.Common.{◌≡◌, ◌∙◌, subst, sym, true}
use Rattle.rustsec_osv_rules.specs.schema.Texts.{is_suffixed}
use Rattle.rustsec_osv_rules.proofs.schema.Folds.{any_at}
use Rattle.rustsec_osv_rules.proofs.schema.names.has_suffix_of.Goals as goal

pub returns-then-is_suffixed : goal.returns-then-is_suffixed
returns-then-is_suffixed c =
    sym (any_at (λ n. n.now) (is_suffixed c.args.text.now) c.args.names.now c.loop-name.name-index _ c.loop-name-test.true
    (subst (λ t. is_suffixed c.args.text.now t ≡ true) c.as_bytes.ensures.value (sym c.is_suffixed.ensures ∙ c.if-is_suffixed.true)))
