use Rattle.std.proofs.Common.{◌≡◌, ◌≢◌, ◌==◌, ◌++◌, ◌∷◌, [], ℕ, List, false, length, refl, sym, eq-eqb, ◌∙◌}
use Rattle.semver.specs.Parse.{Parts}
use Rattle.rustsec_versions.specs.order.Successor.{IsLeastAbove}
use Rattle.rustsec_versions.specs.order.Precedence.{IsVersion}
use Rattle.semver.specs.Identifiers.{build_text, parts_of, pre_text}
use Rattle.rustsec_versions.proofs.lemmas.order.LeastAbove.{successor-least, successor-valid}
use Rattle.rustsec_versions.proofs.order.next_version.successor.Goals as goal

not_zero : (n : ℕ) → (n == 0) ≡ false → n ≢ 0
not_zero n h e = cc (sym (eq-eqb n 0 e) ∙ h)

of_pre : (v : Parts) (pre build : List ℕ) → (length v.3 == 0) ≡ false → pre ≡ v.3 ++ 46 ∷ 48 ∷ [] → build ≡ []
    → IsLeastAbove v (v.0, v.1, v.2, pre, build)
of_pre v pre build some p b = successor-least v (v.0, v.1, v.2, pre, build) (rw (some, p, b) refl)

valid_pre : (v : Parts) (pre build : List ℕ) → IsVersion v → (length v.3 == 0) ≡ false → pre ≡ v.3 ++ 46 ∷ 48 ∷ [] → build ≡ []
    → IsVersion (v.0, v.1, v.2, pre, build)
valid_pre v pre build valid some p b = (successor-valid v (v.0, v.1, v.2, pre, build) valid (rw (some, p, b) refl)).0

pub returns-clause-least : goal.returns-clause-least
returns-clause-least c valid =
    let some = sym (c.if-is_empty.ensures) in
    of_pre (parts_of c.args.version.now) (pre_text c.in-Ok.pre) (build_text c.empty.result) some
    (c.in-Ok.ensures valid.pre (not_zero _ some)) c.empty.ensures

pub returns-clause-valid : goal.returns-clause-valid
returns-clause-valid c valid =
    let some = sym (c.if-is_empty.ensures) in
    valid_pre (parts_of c.args.version.now) (pre_text c.in-Ok.pre) (build_text c.empty.result) valid some
    (c.in-Ok.ensures valid.pre (not_zero _ some)) c.empty.ensures
