use Rattle.std.proofs.Common.{◌≡◌, ℕ, List}
use Rattle.std.specs.List.{filter, range_with_len}
use Rattle.rustsec_graph.specs.Words.{has_word_at, places_under}
use Rattle.rustsec_graph.proofs.index.words_of.Given as goal

-- the places of the packages so far
abbrev pub invariant-loop-place : goal.invariant-loop-place
invariant-loop-place l = (word : List ℕ) → places_under l.words word ≡ filter (has_word_at l.packages word) (range_with_len 0 l.place)
