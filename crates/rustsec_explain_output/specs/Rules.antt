-- What an explanation goes by.
use Rattle.std.specs.Prelude.{List, Option}
use Rattle.rustsec_policy.specs.Entries.{entry_with}
use Rattle.rustsec_policy.specs.declared.ignored.Ignored.{Ignored}
use Rattle.rustsec_report.specs.declared.settings.Settings.{Settings}
use Rattle.rustsec_explain.specs.Pair.{ExplainedPair}

-- the settings of an audit, and the entries of its policy that ignore advisories
pub record RulesValue : Type 0 where
  pub settings : Settings
  pub entries : List Ignored

-- the entry that ignores the advisory of a pair: the first that has its ID
abbrev pub entry_of : RulesValue → ExplainedPair → Option Ignored
entry_of rules e = entry_with rules.entries e.by.metadata.id
