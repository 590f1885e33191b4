-- The whole answer of a check.
use Rattle.std.specs.Prelude.{◌≡◌, ◌&&◌, ◌-◌, not, ℕ, Bool, List, None, length, map}
use Rattle.std.specs.List.{filter, list_any}
use Rattle.rustsec_texts.specs.IdOrder.{id_eq}
use Rattle.rustsec_texts.specs.Ids.{IdValue}
use Rattle.rustsec_advisory.specs.declared.advisory.Advisory.{Advisory}
use Rattle.rustsec_database.specs.Loaded.{has_id}
use Rattle.rustsec_report.specs.declared.settings.Settings.{Settings}
use Rattle.rustsec_check.specs.Findings.{AreFindings}
use Rattle.rustsec_check.specs.Pairs.{as_ignored, counted, found, left_out}
use Rattle.rustsec_check.specs.Values.{CheckValue, IgnoredValue, SubjectValue}

-- the pairs of a subject whose advisory is ignored
abbrev pub ignored_pairs : SubjectValue → List IgnoredValue
ignored_pairs s = map as_ignored (left_out s.settings.ignore (found s.advisories s.packages s.settings))

-- whether some advisory has an ID
abbrev pub is_known : List Advisory → IdValue → Bool
is_known advisories id = list_any (has_id id) advisories

-- whether some advisory has an ID, and no ignored pair does
abbrev pub is_unused : List Advisory → List IgnoredValue → IdValue → Bool
is_unused advisories ignored id = is_known advisories id && not (list_any (λ (i : IgnoredValue). has_id id i.advisory) ignored)

-- the settings for advisories of any severity
abbrev pub any_severity : Settings → Settings
any_severity s = record s { severity = None }

-- how many pairs are counted
abbrev pub count_of : SubjectValue → Settings → ℕ
count_of s settings = length (counted settings.ignore (found s.advisories s.packages settings))

-- the answer of a check
pub record IsCheckOf (s : SubjectValue) (c : CheckValue) : Type 0 where
  pub findings : AreFindings s c.findings
  pub ignored : c.ignored ≡ ignored_pairs s
  -- the ignored IDs that ignore no pair, and those that no advisory has
  pub unused : c.unused ≡ filter (is_unused s.advisories c.ignored) s.settings.ignore
  pub unknown : c.unknown ≡ filter (λ id. not (is_known s.advisories id)) s.settings.ignore
  -- the pairs that the least severity alone leaves out
  pub below_threshold : c.below_threshold ≡ count_of s (any_severity s.settings) - count_of s s.settings

-- ---- ignored IDs by the IDs of all advisories, where a check is by some of them

-- whether an ID is one of these, and no ignored pair has it
abbrev pub is_unused_of : List IdValue → List IgnoredValue → IdValue → Bool
is_unused_of ids ignored id = list_any (id_eq id) ids && not (list_any (λ (i : IgnoredValue). has_id id i.advisory) ignored)
