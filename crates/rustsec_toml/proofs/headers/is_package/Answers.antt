use Rattle.std.proofs.Common.{◌≡◌, ◌∙◌, ◌==◌, ap, codes, length, rules, vec_len, nat_eq, string_bytes, sym}
use Rattle.std.specs.Cmp.Lexicographic.{pointwise}
use Rattle.rustsec_toml.proofs.HeaderLaws.{longer, named}
use Rattle.rustsec_toml.proofs.headers.is_package.Goals as goal

pub returns-then-is_empty : goal.returns-then-is_empty
returns-then-is_empty c =
    named string_bytes c.args.key.now.path.items (string_bytes c.args.key.now.last) (codes "package") c.eq.result
    (ap (λ n. n == 0) (let e : length c.args.key.now.path.items ≡ vec_len c.args.key.now.path = search rules in e) ∙ sym c.is_empty.ensures ∙ c.if-is_empty.true) (c.eq.ensures ∙ ap (λ t. pointwise nat_eq t (codes "package")) c.as_str.ensures.value)

pub returns-else-is_empty : goal.returns-else-is_empty
returns-else-is_empty c =
    longer string_bytes c.args.key.now.path.items (string_bytes c.args.key.now.last) (codes "package") c.is_empty.result
    (ap (λ n. n == 0) (let e : length c.args.key.now.path.items ≡ vec_len c.args.key.now.path = search rules in e) ∙ sym c.is_empty.ensures ∙ c.if-is_empty.false) c.if-is_empty.false
