use Rattle.std.proofs.Common.{◌≡◌, [], length, ℕ}
use Rattle.std.specs.Prelude.{slice_index_or}
use Rattle.rustsec_database.proofs.name_index.empty_lists.Given as goal

-- there is a list for each turn, and all are empty
abbrev pub invariant-loop : goal.invariant-loop
invariant-loop l = record {
  len : length l.lists.items ≡ l.counter;
  empty : (place : ℕ) → slice_index_or l.lists.items place [] ≡ [];
}
