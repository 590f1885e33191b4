use Rattle.std.proofs.Common.{◌≡◌, ◌∙◌, ◌++◌, None, Some, ap, codes, rules}
use Rattle.semver.specs.Identifiers.{parts_text}
use Rattle.rustsec_lock.specs.Cvss.{after_prefix}
use Rattle.rustsec_graph.proofs.Prefixes.{no-text, none-after, some-after, text_in}
use Rattle.rustsec_graph.proofs.releases.after_release.Goals as goal

pub returns-in_err-after_name : goal.returns-in_err-after_name
returns-in_err-after_name c =
    let p = c.args.package.now in
    let none : c.from_residual.result ≡ None = search rules in
    let named : None ≡ after_prefix p.name c.args.text.now =
    c.in_err-after_name.ensures ∙ ap (λ n. after_prefix n c.args.text.now) c.as_str.ensures.text ∙ search rules in
    no-text c.from_residual.result none
    ∙ none-after p.name (codes " " ++ parts_text p.version) c.args.text.now named

pub returns-in_err-after_space : goal.returns-in_err-after_space
returns-in_err-after_space c =
    let p = c.args.package.now in
    let none : c.from_residual-in_err-after_space.result ≡ None = search rules in
    let named : Some c.in_ok-after_name.after_name.now ≡ after_prefix p.name c.args.text.now =
    c.in_ok-after_name.ensures ∙ ap (λ n. after_prefix n c.args.text.now) c.as_str.ensures.text ∙ search rules in
    no-text c.from_residual-in_err-after_space.result none
    ∙ some-after p.name (codes " " ++ parts_text p.version) c.args.text.now c.in_ok-after_name.after_name.now None named
    (none-after (codes " ") (parts_text p.version) c.in_ok-after_name.after_name.now c.in_err-after_space.ensures)

pub returns : goal.returns
returns c =
    let p = c.args.package.now in
    let last = text_in c.after_version.result in
    let named : Some c.in_ok-after_name.after_name.now ≡ after_prefix p.name c.args.text.now =
    c.in_ok-after_name.ensures ∙ ap (λ n. after_prefix n c.args.text.now) c.as_str.ensures.text ∙ search rules in
    let version : last ≡ after_prefix (parts_text p.version) c.in_ok-after_space.after_space.now = search rules in
    some-after p.name (codes " " ++ parts_text p.version) c.args.text.now c.in_ok-after_name.after_name.now last named
    (some-after (codes " ") (parts_text p.version) c.in_ok-after_name.after_name.now c.in_ok-after_space.after_space.now last c.in_ok-after_space.ensures version)
