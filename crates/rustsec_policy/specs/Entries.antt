-- The entries of `ignore` by their IDs, and what they say.
use Rattle.std.specs.Prelude.{ℕ, List, Option, None, Some}
use Rattle.std.specs.List.{find}
use Rattle.rustsec_texts.specs.IdOrder.{id_eq}
use Rattle.rustsec_texts.specs.Ids.{IdValue}
use Rattle.rustsec_policy.specs.declared.ignored.Ignored.{Ignored}

-- the first entry that has an ID
abbrev pub entry_with : List Ignored → IdValue → Option Ignored
entry_with entries id = find (λ (e : Ignored). id_eq e.id id) entries

-- why the advisory of an entry does not count
abbrev pub reason_of : Option Ignored → Option (List ℕ)
reason_of None = None
reason_of (Some e) = e.reason

-- the last day on which it does not count
abbrev pub until_of : Option Ignored → Option (List ℕ)
until_of None = None
until_of (Some e) = e.until
