-- The table `affected` of an advisory's document: platforms, and functions with requirements for the versions in
-- which each is affected.
use Rattle.std.specs.Prelude.{◌≡◌, ℕ, List, [], ◌∷◌, Option, Some, None, codes}
use Rattle.std.specs.List.Sorted.{IsPermutation, IsStrictlySortedBy}
use Rattle.std.specs.Map.{keys_of}
use Rattle.toml.specs.Data.{Data, Members, no_members, member, as_table, get_member}
use Rattle.semver.specs.Parse.{Held}
use Rattle.rustsec_values.specs.Reading.{◌>>=◌, read_all}
use Rattle.rustsec_lock.specs.Platforms.{arch_of, os_of}
use Rattle.rustsec_texts.specs.Paths.{path_of, path_order}
use Rattle.rustsec_advisory.specs.declared.affected.Affected.{Affected}
use Rattle.rustsec_toml.specs.Fields.{defaulted, every, text}
use Rattle.rustsec_advisory.specs.Requirements.{requirements_of}

-- a function: its path, and requirements for the versions in which it is affected
abbrev pub Function : Type 0
Function = List (List ℕ) × List (List Held)

-- the keys of a table, each with its value
abbrev pub members_of : Members → List (List ℕ × Data)
members_of no_members = []
members_of (member key d rest) = (key, d) ∷ members_of rest

-- a function of a key and its value
abbrev pub function_of : List ℕ × Data → Option Function
function_of m = path_of m.0 >>= λ path. requirements_of m.1 >>= λ reqs. Some (path, reqs)

-- the functions of a table: one for each key, in the order of their paths
pub record AreFunctions (t : Members) (fs : List Function) : Type 0 where
  pub read : List Function
  pub is_read : read_all function_of (members_of t) ≡ Some read
  pub same : IsPermutation read fs
  pub ordered : IsStrictlySortedBy path_order (keys_of fs)

-- the functions at a key, none if the key is missing
abbrev pub AreFunctionsAt : Option Data → List Function → Type 0
AreFunctionsAt None fs = fs ≡ []
AreFunctionsAt (Some d) fs = (t : Members) × ((as_table d ≡ Some t) × AreFunctions t fs)

-- the value of the table
pub record IsAffected (table : Members) (a : Affected) : Type 0 where
  pub arch : defaulted [] (every (text arch_of)) (codes "arch") table ≡ Some a.arch
  pub os : defaulted [] (every (text os_of)) (codes "os") table ≡ Some a.os
  pub functions : AreFunctionsAt (get_member (codes "functions") table) a.functions
