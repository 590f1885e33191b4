-- The commands, and the words that name them.
use Rattle.std.specs.Prelude.{ℕ, nat_eq, Bool, false, true, List, [], ◌∷◌, codes, if◌then◌else◌}
use Rattle.std.specs.Cmp.Lexicographic.{pointwise}

-- a command with its words, or none
pub data Command : Type 0 where
  affected : Command
  ranges : Command
  lint : List ℕ → Command
  osv : List ℕ → List ℕ → Command
  report : List ℕ → List ℕ → Command
  audit : List ℕ → List ℕ → List (List ℕ) → Command
  none : Command

-- the command that words name: `affected`, `ranges`, `lint` and a path, `osv`, a path and a time, `report` and two paths, or
-- `audit`, two paths and further words
abbrev pub command_of : List (List ℕ) → Command
command_of [] = none
command_of (word ∷ []) =
    if pointwise nat_eq word (codes "affected") then affected
    else if pointwise nat_eq word (codes "ranges") then ranges
    else none
command_of (word ∷ path ∷ []) = if pointwise nat_eq word (codes "lint") then lint path else none
command_of (word ∷ path ∷ other ∷ []) =
    if pointwise nat_eq word (codes "osv") then osv path other
    else if pointwise nat_eq word (codes "report") then report path other
    else if pointwise nat_eq word (codes "audit") then audit path other []
    else none
command_of (word ∷ root ∷ lock ∷ option ∷ options) =
    if pointwise nat_eq word (codes "audit") then audit root lock (option ∷ options) else none

abbrev pub is_command : Command → Bool
is_command affected = true
is_command ranges = true
is_command (lint path) = true
is_command (osv path modified) = true
is_command (report root lock) = true
is_command (audit root lock options) = true
is_command none = false

-- whether words name a command
abbrev pub names_command : List (List ℕ) → Bool
names_command words = is_command (command_of words)
