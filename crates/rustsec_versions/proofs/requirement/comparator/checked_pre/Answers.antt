use Rattle.std.proofs.Common.{◌≡◌, ℕ, List, refl, sym, ◌∙◌, rules, inl, inr, Ok, Err, Some, None}
use Rattle.std.proofs.lemmas.Bool.{cases_Bool}
use Rattle.semver.specs.Grammar.{is_pre_release}
use Rattle.semver.specs.Parse.{only_identifier}
use Rattle.semver.specs.declared.error.Position.TheVariants as place
use Rattle.semver.specs.declared.error.Error.{Error}
use Rattle.semver.proofs.Grammar.{is_pre_release-only, only_identifier-pre}
use Rattle.rustsec_values.specs.Reading.{only_if}
use Rattle.rustsec_versions.proofs.requirement.comparator.checked_pre.Goals as goal

-- a text that was read is the pre-release
was_read : (text read asked : List ℕ) → only_identifier place.Pre text ≡ Ok read → text ≡ asked
    → only_if (is_pre_release asked) (Some asked) ≡ Some read
was_read text read asked h e =
    let r = only_identifier-pre text read h in
    rw (← e, r.1, r.0) refl

-- a text that was refused is none
was_refused : (text asked : List ℕ) (e : Error) → only_identifier place.Pre text ≡ Err e → text ≡ asked
    → only_if (is_pre_release asked) (Some asked) ≡ None
was_refused text asked e h same = elim (cases_Bool (is_pre_release text)) [
  | inl valid ↦ cc (sym h ∙ is_pre_release-only text valid)
  | inr invalid ↦ rw (← same, invalid) refl
]

pub returns-in-Ok-clause-ok : goal.returns-in-Ok-clause-ok
returns-in-Ok-clause-ok c = was_read _ _ _ c.in-Ok.ensures.ok c.as_str.ensures

pub returns-in-Err-2-clause-err : goal.returns-in-Err-2-clause-err
returns-in-Err-2-clause-err c =
    let same : c.in-Err.e ≡ c.in-Err-2.field-0 = cc in
    elim c.in-Err-2.ensures.err [
      | inl memory ↦ cc (c.is_out_of_memory.ensures.memory (same ∙ memory))
      | inr refused ↦ let none = was_refused _ _ _ refused c.as_str.ensures in rw none (search rules)
    ]
