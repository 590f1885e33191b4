use Rattle.std.proofs.Common.{◌≡◌, ◌∙◌, ◌∷◌, None, ap, refl, rules}
use Rattle.std.specs.Prelude.{decimal}
use Rattle.semver.specs.Identifiers.{build_text, marked, pre_text}
use Rattle.rustsec_lock.specs.Cvss.{after_prefix}
use Rattle.rustsec_graph.proofs.Prefixes.{from_minor, from_patch, from_pre, no-text, none-after, some-after, text_in}
use Rattle.rustsec_graph.proofs.releases.after_version.Goals as goal

pub returns-in_err-after_major : goal.returns-in_err-after_major
returns-in_err-after_major c =
    let v = c.args.version.now in
    let none : c.from_residual.result ≡ None = search rules in
    no-text c.from_residual.result none
    ∙ none-after (decimal v.major) (from_minor v.minor v.patch (pre_text v.pre) (build_text v.build)) c.args.text.now c.in_err-after_major.ensures

pub returns-in_err-after_minor : goal.returns-in_err-after_minor
returns-in_err-after_minor c =
    let v = c.args.version.now in
    let none : c.from_residual-in_err-after_minor.result ≡ None = search rules in
    no-text c.from_residual-in_err-after_minor.result none
    ∙ some-after (decimal v.major) (from_minor v.minor v.patch (pre_text v.pre) (build_text v.build)) c.args.text.now c.in_ok-after_major.after_major.now None
    c.in_ok-after_major.ensures
    (none-after (46 ∷ decimal v.minor) (from_patch v.patch (pre_text v.pre) (build_text v.build)) c.in_ok-after_major.after_major.now c.in_err-after_minor.ensures)

pub returns-in_err-after_patch : goal.returns-in_err-after_patch
returns-in_err-after_patch c =
    let v = c.args.version.now in
    let none : c.from_residual-in_err-after_patch.result ≡ None = search rules in
    no-text c.from_residual-in_err-after_patch.result none
    ∙ some-after (decimal v.major) (from_minor v.minor v.patch (pre_text v.pre) (build_text v.build)) c.args.text.now c.in_ok-after_major.after_major.now None
    c.in_ok-after_major.ensures
    (some-after (46 ∷ decimal v.minor) (from_patch v.patch (pre_text v.pre) (build_text v.build)) c.in_ok-after_major.after_major.now c.in_ok-after_minor.after_minor.now None
    c.in_ok-after_minor.ensures
    (none-after (46 ∷ decimal v.patch) (from_pre (pre_text v.pre) (build_text v.build)) c.in_ok-after_minor.after_minor.now c.in_err-after_patch.ensures))

pub returns-in_err-after_pre : goal.returns-in_err-after_pre
returns-in_err-after_pre c =
    let v = c.args.version.now in
    let none : c.from_residual-in_err-after_pre.result ≡ None = search rules in
    no-text c.from_residual-in_err-after_pre.result none
    ∙ some-after (decimal v.major) (from_minor v.minor v.patch (pre_text v.pre) (build_text v.build)) c.args.text.now c.in_ok-after_major.after_major.now None
    c.in_ok-after_major.ensures
    (some-after (46 ∷ decimal v.minor) (from_patch v.patch (pre_text v.pre) (build_text v.build)) c.in_ok-after_major.after_major.now c.in_ok-after_minor.after_minor.now None
    c.in_ok-after_minor.ensures
    (some-after (46 ∷ decimal v.patch) (from_pre (pre_text v.pre) (build_text v.build)) c.in_ok-after_minor.after_minor.now c.in_ok-after_patch.after_patch.now None
    c.in_ok-after_patch.ensures
    (none-after (marked 45 (pre_text v.pre)) (marked 43 (build_text v.build)) c.in_ok-after_patch.after_patch.now
    (c.in_err-after_pre.ensures 45 refl ∙ ap (λ i. after_prefix (marked 45 i) c.in_ok-after_patch.after_patch.now) c.as_str.ensures))))

pub returns : goal.returns
returns c =
    let v = c.args.version.now in
    let last = text_in c.after_marked-2.result in
    some-after (decimal v.major) (from_minor v.minor v.patch (pre_text v.pre) (build_text v.build)) c.args.text.now c.in_ok-after_major.after_major.now last
    c.in_ok-after_major.ensures
    (some-after (46 ∷ decimal v.minor) (from_patch v.patch (pre_text v.pre) (build_text v.build)) c.in_ok-after_major.after_major.now c.in_ok-after_minor.after_minor.now last
    c.in_ok-after_minor.ensures
    (some-after (46 ∷ decimal v.patch) (from_pre (pre_text v.pre) (build_text v.build)) c.in_ok-after_minor.after_minor.now c.in_ok-after_patch.after_patch.now last
    c.in_ok-after_patch.ensures
    (some-after (marked 45 (pre_text v.pre)) (marked 43 (build_text v.build)) c.in_ok-after_patch.after_patch.now c.in_ok-after_pre.after_pre.now last
    (c.in_ok-after_pre.ensures 45 refl ∙ ap (λ i. after_prefix (marked 45 i) c.in_ok-after_patch.after_patch.now) c.as_str.ensures)
    (c.after_marked-2.ensures 43 refl ∙ ap (λ i. after_prefix (marked 43 i) c.in_ok-after_pre.after_pre.now) c.as_str-2.ensures))))
