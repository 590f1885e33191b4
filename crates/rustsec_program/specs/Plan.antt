-- What the options of a command and the file of its policy ask for.
use Rattle.std.specs.Prelude.{◌≡◌, ℕ, Bool, false, List, Option, Some, None, unwrap_or}
use Rattle.std.specs.List.{filter}
use Rattle.rustsec_files.specs.Allowed.{Allowed}
use Rattle.rustsec_values.specs.Failure.{Failure, IsRefusal}
use Rattle.rustsec_values.specs.declared.error.ErrorKind.TheVariants as kind
use Rattle.rustsec_policy.specs.Policies.{counts_until}
use Rattle.rustsec_policy.specs.declared.ignored.Ignored.{Ignored}
use Rattle.rustsec_policy.specs.declared.policy.Policy.{Policy}
use Rattle.rustsec_program.specs.CheckOptions.{CheckOption, has, last_value}
use Rattle.rustsec_program.specs.Wanted.{IsPolicyAt, IsPolicyRefusal, request_of, wanted}
use Rattle.rustsec_program.specs.declared.keys.Flag.TheVariants as flag
use Rattle.rustsec_program.specs.declared.keys.Key.TheVariants as key
use Rattle.rustsec_program.specs.declared.request.Request.{Request}
use Rattle.rustsec_program.specs.declared.wanted.Wanted.{Wanted}

-- whether an entry counts on a day: always, or up to its last day
abbrev pub counts_on : Option (List ℕ) → Ignored → Bool
counts_on today e = unwrap_or (counts_until e.until today) false

-- what is asked for: the entries of the policy that ignore advisories on the day, what policy and words want, the path of
-- the baseline, whether an empty database or lockfile is not refused, and whether progress is shown
pub record PlanValue : Type 0 where
  pub entries : List Ignored
  pub wanted : Wanted
  pub baseline : Option (List ℕ)
  pub allow_empty : Bool
  pub shows_progress : Bool

-- the plan of options
pub record IsPlan (allowed : Allowed) (options : List CheckOption) (p : PlanValue) : Type 0 where
  pub request : Request
  pub policy : Policy
  pub is_request : request_of options ≡ Some request
  pub is_policy : IsPolicyAt allowed (last_value key.Policy options) policy
  pub is_wanted : wanted policy request ≡ Some p.wanted
  pub entries : p.entries ≡ filter (counts_on request.today) policy.advisories.ignore
  pub baseline : p.baseline ≡ last_value key.Baseline options
  pub allow_empty : p.allow_empty ≡ has flag.AllowEmpty options
  pub shows_progress : p.shows_progress ≡ has flag.Progress options

-- how options are refused: a value is; the policy is; or an entry of the policy has a last day and the words name no day
pub data IsPlanRefusal (allowed : Allowed) (options : List CheckOption) (e : Failure) : Type 0 where
  misread : IsRefusal kind.Parse (request_of options ≡ None) e → IsPlanRefusal allowed options e
  unruled : (r : Request) → request_of options ≡ Some r → IsPolicyRefusal allowed (last_value key.Policy options) e → IsPlanRefusal allowed options e
  undated : (r : Request) (p : Policy) → request_of options ≡ Some r → IsPolicyAt allowed (last_value key.Policy options) p
      → IsRefusal kind.BadParam (wanted p r ≡ None) e → IsPlanRefusal allowed options e
