-- Whether the events of a document rise, and that those of an exported one do.
use Rattle.std.proofs.Common.{◌≡◌, ◌<◌, ◌≤◌, ◌&&◌, ◌+◌, ℕ, Bool, true, false, List, [], ◌∷◌, Option, Some, None, drop, get_or, length, map, refl, sym}
use Rattle.std.specs.Prelude.{Err, IfOk, Ok, Result}
use Rattle.std.specs.List.{list_all}
use Rattle.std.proofs.lemmas.Bool.{and_from}
use Rattle.std.proofs.lemmas.List.{drop_all, drop_more}
use Rattle.semver.specs.Parse.{Parts}
use Rattle.rustsec_versions.specs.order.Precedence.{is_at_most}
use Rattle.rustsec_versions.proofs.lemmas.order.Rising.{Rises}
use Rattle.rustsec_advisory.specs.declared.advisory.Advisory.{Advisory}
use Rattle.rustsec_values.specs.Failure.{Failure}
use Rattle.rustsec_osv.specs.DocumentEvents.{Event, event_of}
use Rattle.rustsec_osv.specs.Documents.{Document}
use Rattle.rustsec_osv.specs.Export.{IsDocument}
use Rattle.rustsec_osv.specs.declared.timeline.OsvTimelineEvent.{OsvTimelineEvent}
use Rattle.rustsec_osv_rules.specs.evaluation.Order.{at, follows, has_ordered_events, rise}
use Rattle.rustsec_osv_rules.proofs.evaluation.Turning.{events-rise}

-- ---- loops that ask each element of a list

module _ {X : Type 0} (p : X → Bool) where
  pub all_more : (xs : List X) (i : ℕ) (x : X) → i < length xs → x ≡ get_or xs i x → p x ≡ true → list_all p (drop i xs) ≡ list_all p xs
      → list_all p (drop (i + 1) xs) ≡ list_all p xs
  all_more xs i x l at e h = rw (drop_more xs i x l, ← at, e) at h

  pub all_stop : (xs : List X) (i : ℕ) (x : X) → i < length xs → x ≡ get_or xs i x → p x ≡ false → list_all p (drop i xs) ≡ list_all p xs
      → list_all p xs ≡ false
  all_stop xs i x l at e h = sym (rw (drop_more xs i x l, ← at, e) at h)

  pub all_end : (xs : List X) (i : ℕ) → length xs ≤ i → list_all p (drop i xs) ≡ list_all p xs → list_all p xs ≡ true
  all_end xs i l h = sym (rw (drop_all i xs l) at h)

-- ---- events one by one

-- whether events rise after a version, if any
abbrev pub rise_after : Option Parts → List Event → Bool
rise_after None es = rise es
rise_after (Some v) [] = true
rise_after (Some v) (e ∷ es) = is_at_most v (at e) && rise (e ∷ es)

led : (e : Event) (es : List Event) → rise (e ∷ es) ≡ rise_after (Some (at e)) es
led e [] = refl
led e (f ∷ es) = refl

step : (before : Option Parts) (e : Event) (es : List Event) → follows before e ≡ true → rise_after before (e ∷ es) ≡ rise_after (Some (at e)) es
step None e es h = led e es
step (Some v) e es h = rw h (led e es)

refused : (before : Option Parts) (e : Event) (es : List Event) → follows before e ≡ false → rise_after before (e ∷ es) ≡ false
refused None e es h = cc h
refused (Some v) e es h = rw h refl

ended : (before : Option Parts) → rise_after before [] ≡ true
ended None = refl
ended (Some v) = refl

module _ (xs : List OsvTimelineEvent) (i : ℕ) (before : Option Parts) (all : Bool) where
  pub rise_more : (x : OsvTimelineEvent) → i < length xs → x ≡ get_or xs i x → follows before (event_of x) ≡ true
      → rise_after before (map event_of (drop i xs)) ≡ all → rise_after (Some (at (event_of x))) (map event_of (drop (i + 1) xs)) ≡ all
  rise_more x l at e h = rw (drop_more xs i x l, ← at, step before (event_of x) (map event_of (drop (i + 1) xs)) e) at h

  pub rise_stop : (x : OsvTimelineEvent) → i < length xs → x ≡ get_or xs i x → follows before (event_of x) ≡ false
      → rise_after before (map event_of (drop i xs)) ≡ all → all ≡ false
  rise_stop x l at e h = sym (rw (drop_more xs i x l, ← at, refused before (event_of x) (map event_of (drop (i + 1) xs)) e) at h)

  pub rise_end : length xs ≤ i → rise_after before (map event_of (drop i xs)) ≡ all → all ≡ true
  rise_end l h = sym (rw (drop_all i xs l, ended before) at h)

-- ---- exported documents

pub rise-from : (es : List Event) → Rises (map at es) → rise es ≡ true
rise-from [] r = refl
rise-from (e ∷ []) r = refl
rise-from (e ∷ f ∷ es) r = and_from _ _ r.0 (rise-from (f ∷ es) r.1)

pub exported-ordered : (a : Advisory) (modified : List ℕ) (d : Document) → IsDocument a modified d → has_ordered_events d ≡ true
exported-ordered a modified d x =
    let events = x.is_range.events in
    let risen = rise-from _ (events-rise a.versions x.is_range.ranges x.is_range.are_ranges) in
    rw (x.is, events, risen) refl

pub ordered-ok : (a : Advisory) (modified : List ℕ) (r : Result Document Failure) → IfOk r (IsDocument a modified)
    → IfOk r (λ d. has_ordered_events d ≡ true)
ordered-ok a modified (Ok d) x = exported-ordered a modified d x
ordered-ok a modified (Err e) x = tt
