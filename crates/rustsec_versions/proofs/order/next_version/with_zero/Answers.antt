use Rattle.std.proofs.Common.{◌≡◌, ◌≢◌, ◌==◌, ◌++◌, ◌∷◌, [], ◌⊎◌, ℕ, List, Ok, Err, length, false, true, sym, ◌∙◌, inl, inr, MatchResult}
use Rattle.std.specs.Prelude.{Result, IfErr, IfOk}
use Rattle.std.proofs.lemmas.Bool.{cases_Bool, eqb-true}
use Rattle.semver.specs.Grammar.{is_pre_release}
use Rattle.semver.specs.Identifiers.{pre_text}
use Rattle.semver.specs.Parse.{memory_error, only_identifier}
use Rattle.semver.specs.declared.Prerelease.{Prerelease}
use Rattle.semver.specs.declared.error.Error.{Error}
use Rattle.semver.specs.declared.error.Position.TheVariants as place
use Rattle.semver.proofs.Grammar.{is_pre_release-only, only_identifier-pre}
use Rattle.rustsec_versions.proofs.lemmas.order.LeastAbove.{is_pre_release-more}
use Rattle.rustsec_versions.proofs.order.next_version.with_zero.Goals as goal

there : (p : List ℕ) → length p ≢ 0 → (length p == 0) ≡ false
there p h = elim (cases_Bool (length p == 0)) [
  | inl none ↦ absurd (h (eqb-true _ _ none))
  | inr some ↦ some
]

read : (r : Result Prerelease Error) (text : List ℕ) → is_pre_release text ≡ true
    → IfOk r (λ p. only_identifier place.Pre text ≡ Ok (pre_text p))
    → IfErr r (λ e. (e ≡ memory_error) ⊎ (only_identifier place.Pre text ≡ Err e))
    → MatchResult r (λ p. pre_text p ≡ text) (λ e. e ≡ memory_error)
read (Ok p) text valid ok err = sym (only_identifier-pre text (pre_text p) ok).0
read (Err e) text valid ok (inl memory) = memory
read (Err e) text valid ok (inr refused) = cc (sym refused ∙ is_pre_release-only text valid)

pub returns : goal.returns
returns c valid some =
    let longer = is_pre_release-more (pre_text c.args.pre.now) valid (there _ some) in
    let text : c.as_str.result.now ≡ pre_text c.args.pre.now ++ 46 ∷ 48 ∷ [] = c.as_str.ensures.value ∙ c.in_ok-text.ensures.ok in
    rw (← text) (read c.new.result c.as_str.result.now (rw text longer) c.new.ensures.ok c.new.ensures.err)
