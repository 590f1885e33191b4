use Rattle.std.proofs.Common.{◌≡◌, map, take}
use Rattle.std.specs.List.{filter}
use Rattle.rustsec_database.specs.Places.{at_places}
use Rattle.rustsec_database.proofs.database.Database.indexed.Given as goal

-- the advisories found so far are those of the postings so far that pass the test
abbrev pub invariant-loop-posting : goal.invariant-loop-posting
invariant-loop-posting g l =
    map (λ a. a.now) l.found.items ≡ filter (g.T.Predicate.holds l.test) (at_places (take l.posting-index (map (λ p. p.1) l.postings)) l.self)
