-- A normalized document has no answer that the document does not have, and the same answer with its events as they are given.
use Rattle.std.proofs.Common.{◌≡◌, ◌∙◌, ◌&&◌, ◌||◌, ℕ, Bool, true, false, cond, List, [], ◌∷◌, Option, Some, None, ap, map, refl}
use Rattle.std.specs.Prelude.{filter, not, option_map, unwrap_or}
use Rattle.std.specs.List.{list_any}
use Rattle.std.proofs.lemmas.Bool.{and_from, and_parts}
use Rattle.std.proofs.lemmas.List.Sorted.{IsPermutation-refl}
use Rattle.semver.specs.Identifiers.{parts_text}
use Rattle.semver.specs.Parse.{Parts}
use Rattle.rustsec_versions.proofs.lemmas.order.Rising.{IsSorted-from, Rises}
use Rattle.rustsec_files.specs.Listed.{Pairwise}
use Rattle.rustsec_osv.specs.DocumentEvents.{Event, JsonRange, fixed, introduced, last_affected}
use Rattle.rustsec_osv.specs.Documents.{Document}
use Rattle.rustsec_osv.specs.declared.affected.OsvAffected.{OsvAffected}
use Rattle.rustsec_osv_rules.specs.evaluation.Document.{IsAnswer, IsMemberAnswer, IsRangeOfAnswer, is_about, is_of_versions, lists, member_says_as_given, range_says_as_given, ranges_of}
use Rattle.rustsec_osv_rules.specs.evaluation.Event.{seen}
use Rattle.rustsec_osv_rules.specs.evaluation.Order.{at, rise}
use Rattle.rustsec_osv_rules.specs.evaluation.Pairs.{normalized, normalized_member, normalized_range, take_turns}
use Rattle.rustsec_osv_rules.specs.evaluation.Range.{IsRangeAnswer, say_in_order}
use Rattle.rustsec_osv_rules.proofs.evaluation.DroppedPairs.{normalized-own, normalized-rises, normalized-says}
use Rattle.rustsec_osv_rules.proofs.evaluation.Ordered.{rise-from}
use Rattle.rustsec_osv_rules.proofs.evaluation.Saying.{before-limits, range-answer, seen-versions}
use Rattle.rustsec_osv_rules.proofs.evaluation.Turning.{Turns}

-- ---- what the two tests say

not-true : (b : Bool) → not b ≡ true → b ≡ false
not-true true h = cc h
not-true false h = refl

turns-from : (first : Bool) (es : List Event) → take_turns first es ≡ true → Turns first es
turns-from first [] h = tt
turns-from first (introduced v ∷ es) h =
    let both = and_parts first (take_turns (not first) es) h in
    (both.0, rw both.0 at (turns-from (not first) es both.1))
turns-from first (fixed v ∷ es) h =
    let both = and_parts (not first) (take_turns (not first) es) h in
    (not-true first both.0, rw both.0 at (turns-from (not first) es both.1))
turns-from first (last_affected v ∷ es) h = cc h

turns-to : (first : Bool) (es : List Event) → Turns first es → take_turns first es ≡ true
turns-to first [] t = refl
turns-to first (introduced v ∷ es) t = rw t.0 (turns-to false es t.1)
turns-to first (fixed v ∷ es) t = rw t.0 (turns-to true es t.1)
turns-to first (last_affected v ∷ es) t = absurd t

pub rises-from : (es : List Event) → rise es ≡ true → Rises (map at es)
rises-from [] h = tt
rises-from (e ∷ []) h = tt
rises-from (e ∷ f ∷ es) h =
    let both = and_parts _ (rise (f ∷ es)) h in
    (both.0, rises-from (f ∷ es) both.1)

-- the events of a range that is normalized
pub normalized-events : (r : JsonRange) → Turns true r.events → Rises (map at r.events) → (normalized_range r).events ≡ normalized r.events
normalized-events r t s =
    let both : (take_turns true r.events && rise r.events) ≡ true = and_from _ _ (turns-to true r.events t) (rise-from r.events s) in
    rw both refl

-- ---- one range

-- the events as they are given are in a rising order, and say what those that are left say
whole-answer : (v : Parts) (es : List Event) (answer : Bool) → Turns true es → Rises (map at es) → IsRangeAnswer (map seen (normalized es)) v answer
    → IsRangeAnswer (map seen es) v answer
whole-answer v es answer t r h =
    let is = range-answer (normalized es) v answer (normalized-rises es r) (normalized-own es r) h ∙ normalized-says v true es t r in
    record {
      ordered = map seen es;
      same = IsPermutation-refl (map seen es);
      rise = IsSorted-from _ (rw (seen-versions es) r);
      is = rw (before-limits es v) is;
    }

answer_if : (v : Parts) (es : List Event) (dropped answer : Bool) → (take_turns true es && rise es) ≡ dropped
    → IsRangeAnswer (map seen (cond dropped (normalized es) es)) v answer → IsRangeAnswer (map seen es) v answer
answer_if v es true answer d h =
    let both = and_parts (take_turns true es) (rise es) d in
    whole-answer v es answer (turns-from true es both.0) (rises-from es both.1) h
answer_if v es false answer d h = h

range-answers : (v : Parts) (r : JsonRange) (answer : Bool) → IsRangeOfAnswer v (normalized_range r) answer → IsRangeOfAnswer v r answer
range-answers v r answer h = record {
  versions = λ k. answer_if v r.events (take_turns true r.events && rise r.events) answer refl (h.versions k);
  commits = h.commits;
}

said_if : (v : Parts) (es : List Event) (dropped : Bool) → (take_turns true es && rise es) ≡ dropped
    → say_in_order (map seen (cond dropped (normalized es) es)) v ≡ say_in_order (map seen es) v
said_if v es true d =
    let both = and_parts (take_turns true es) (rise es) d in
    normalized-says v true es (turns-from true es both.0) (rises-from es both.1)
said_if v es false d = refl

range-says : (v : Parts) (r : JsonRange) → range_says_as_given v (normalized_range r) ≡ range_says_as_given v r
range-says v r = ap (λ b. is_of_versions r && b) (said_if v r.events (take_turns true r.events && rise r.events) refl)

-- ---- elements that a function changes

module _ {X : Type 0} (f : X → X) where
  pairwise-mapped : (R : X → Bool → Type 0) → ((x : X) (b : Bool) → R (f x) b → R x b) → (xs : List X) (answers : List Bool)
      → Pairwise R (map f xs) answers → Pairwise R xs answers
  pairwise-mapped R back [] [] h = tt
  pairwise-mapped R back (x ∷ xs) (b ∷ answers) h = (back x b h.0, pairwise-mapped R back xs answers h.1)
  pairwise-mapped R back [] (b ∷ answers) h = absurd h
  pairwise-mapped R back (x ∷ xs) [] h = absurd h

  any-mapped : (p : X → Bool) → ((x : X) → p (f x) ≡ p x) → (xs : List X) → list_any p (map f xs) ≡ list_any p xs
  any-mapped p same [] = refl
  any-mapped p same (x ∷ xs) = λ i. same x i || any-mapped p same xs i

  kept_if : (b : Bool) (x : X) (xs ys : List X) → ys ≡ map f xs → cond b (f x ∷ ys) ys ≡ map f (cond b (x ∷ xs) xs)
  kept_if true x xs ys h = λ i. f x ∷ h i
  kept_if false x xs ys h = h

  filter-mapped : (p : X → Bool) → ((x : X) → p (f x) ≡ p x) → (xs : List X) → filter p (map f xs) ≡ map f (filter p xs)
  filter-mapped p same [] = refl
  filter-mapped p same (x ∷ xs) = rw (same x) (kept_if (p x) x (filter p xs) (filter p (map f xs)) (filter-mapped p same xs))

-- ---- one member

ranges-of : (o : Option (List JsonRange)) → unwrap_or (option_map (map normalized_range) o) [] ≡ map normalized_range (unwrap_or o [])
ranges-of None = refl
ranges-of (Some ranges) = refl

member-answers : (v : Parts) (a : OsvAffected) (answer : Bool) → IsMemberAnswer v (normalized_member a) answer → IsMemberAnswer v a answer
member-answers v a answer h = record {
  answers = h.answers;
  each = pairwise-mapped normalized_range (IsRangeOfAnswer v) (range-answers v) (ranges_of a) h.answers (rw (ranges-of a.ranges) at h.each);
  is = h.is;
}

member-says : (v : Parts) (a : OsvAffected) → member_says_as_given v (normalized_member a) ≡ member_says_as_given v a
member-says v a =
    let any = any-mapped normalized_range (range_says_as_given v) (range-says v) (ranges_of a) in
    ap (λ (ranges : List JsonRange). lists (parts_text v) a || list_any (range_says_as_given v) ranges) (ranges-of a.ranges)
    ∙ ap (λ b. lists (parts_text v) a || b) any

-- ---- all members

module _ (left given : List OsvAffected) (members : left ≡ map normalized_member given) (ecosystem name : List ℕ) (v : Parts) where
  about : filter (is_about ecosystem name) left ≡ map normalized_member (filter (is_about ecosystem name) given)
  about = ap (λ (xs : List OsvAffected). filter (is_about ecosystem name) xs) members
      ∙ filter-mapped normalized_member (is_about ecosystem name) (λ a. refl) given

  answers-kept : (answers : List Bool) → Pairwise (IsMemberAnswer v) (filter (is_about ecosystem name) left) answers
      → Pairwise (IsMemberAnswer v) (filter (is_about ecosystem name) given) answers
  answers-kept answers h =
      pairwise-mapped normalized_member (IsMemberAnswer v) (member-answers v) (filter (is_about ecosystem name) given) answers (rw about at h)

  pub same-verdict : list_any (member_says_as_given v) (filter (is_about ecosystem name) left)
      ≡ list_any (member_says_as_given v) (filter (is_about ecosystem name) given)
  same-verdict =
      ap (λ (xs : List OsvAffected). list_any (member_says_as_given v) xs) about
      ∙ any-mapped normalized_member (member_says_as_given v) (member-says v) (filter (is_about ecosystem name) given)

-- each answer of a document whose members are normalized is one of the given document
pub answer-kept : (d given : Document) → d.affected ≡ map normalized_member given.affected → (ecosystem name : List ℕ) (v : Parts) (answer : Bool)
    → IsAnswer ecosystem name v d answer → IsAnswer ecosystem name v given answer
answer-kept d given members ecosystem name v answer h = record {
  answers = h.answers;
  each = answers-kept d.affected given.affected members ecosystem name v h.answers h.each;
  is = h.is;
}
