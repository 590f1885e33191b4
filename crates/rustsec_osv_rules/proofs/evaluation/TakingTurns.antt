-- Whether events take turns, one by one.
use Rattle.std.proofs.Common.{◌≡◌, ◌<◌, ◌≤◌, ◌+◌, ℕ, Bool, true, false, List, drop, get_or, length, map, sym}
use Rattle.std.specs.Prelude.{not}
use Rattle.std.proofs.lemmas.List.{drop_all, drop_more}
use Rattle.rustsec_osv.specs.DocumentEvents.{event_of}
use Rattle.rustsec_osv.specs.declared.timeline.OsvTimelineEvent.{OsvTimelineEvent}
use Rattle.rustsec_osv_rules.specs.evaluation.Pairs.{has_turn, take_turns}

module _ (xs : List OsvTimelineEvent) (i : ℕ) (introduction all : Bool) where
  pub turns_more : (x : OsvTimelineEvent) → i < length xs → x ≡ get_or xs i x → has_turn introduction (event_of x) ≡ true
      → take_turns introduction (map event_of (drop i xs)) ≡ all → take_turns (not introduction) (map event_of (drop (i + 1) xs)) ≡ all
  turns_more x l at e h = rw (drop_more xs i x l, ← at, e) at h

  pub turns_stop : (x : OsvTimelineEvent) → i < length xs → x ≡ get_or xs i x → has_turn introduction (event_of x) ≡ false
      → take_turns introduction (map event_of (drop i xs)) ≡ all → all ≡ false
  turns_stop x l at e h = sym (rw (drop_more xs i x l, ← at, e) at h)

  pub turns_end : length xs ≤ i → take_turns introduction (map event_of (drop i xs)) ≡ all → all ≡ true
  turns_end l h = sym (rw (drop_all i xs l) at h)
