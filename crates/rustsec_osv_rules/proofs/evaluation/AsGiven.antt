-- Where the events of each range rise, the answer with the events as they are given is an answer of the evaluation.
use Rattle.std.proofs.Common.{◌≡◌, ◌||◌, ℕ, Bool, true, false, cond, List, [], ◌∷◌, ap, map, refl}
use Rattle.std.specs.Prelude.{filter}
use Rattle.std.specs.List.{list_all, list_any}
use Rattle.std.proofs.lemmas.Bool.{and_from, and_parts}
use Rattle.std.proofs.lemmas.List.Sorted.{IsPermutation-refl}
use Rattle.semver.specs.Identifiers.{parts_text}
use Rattle.semver.specs.Parse.{Parts}
use Rattle.rustsec_versions.proofs.lemmas.order.Rising.{IsSorted-from}
use Rattle.rustsec_files.specs.Listed.{Pairwise}
use Rattle.rustsec_osv.specs.DocumentEvents.{JsonRange}
use Rattle.rustsec_osv.specs.Documents.{Document}
use Rattle.rustsec_osv.specs.declared.affected.OsvAffected.{OsvAffected}
use Rattle.rustsec_osv_rules.specs.evaluation.Document.{IsAnswer, IsMemberAnswer, IsRangeOfAnswer, are_any, is_about, lists, member_says_as_given, range_says_as_given, ranges_of, says_as_given}
use Rattle.rustsec_osv_rules.specs.evaluation.Event.{seen}
use Rattle.rustsec_osv_rules.specs.evaluation.Order.{has_ordered_events, is_ordered_member, is_ordered_range}
use Rattle.rustsec_osv_rules.proofs.evaluation.SameAnswers.{rises-from}
use Rattle.rustsec_osv_rules.proofs.evaluation.Saying.{before-limits, seen-versions}

-- ---- lists

module _ {X : Type 0} where
  answers-by : (R : X → Bool → Type 0) (ok says : X → Bool) → ((x : X) → ok x ≡ true → R x (says x)) → (xs : List X) → list_all ok xs ≡ true
      → Pairwise R xs (map says xs)
  answers-by R ok says each [] h = tt
  answers-by R ok says each (x ∷ xs) h =
      let both = and_parts (ok x) (list_all ok xs) h in
      (each x both.0, answers-by R ok says each xs both.1)

  any-says : (says : X → Bool) (xs : List X) → list_any says xs ≡ are_any (map says xs)
  any-says says [] = refl
  any-says says (x ∷ xs) = ap (λ b. says x || b) (any-says says xs)

  all_if : (ok : X → Bool) (b : Bool) (x : X) (xs : List X) → ok x ≡ true → list_all ok xs ≡ true → list_all ok (cond b (x ∷ xs) xs) ≡ true
  all_if ok true x xs h k = and_from (ok x) (list_all ok xs) h k
  all_if ok false x xs h k = k

  all-filter : (ok p : X → Bool) (xs : List X) → list_all ok xs ≡ true → list_all ok (filter p xs) ≡ true
  all-filter ok p [] h = refl
  all-filter ok p (x ∷ xs) h =
      let both = and_parts (ok x) (list_all ok xs) h in
      all_if ok (p x) x (filter p xs) both.0 (all-filter ok p xs both.1)

-- ---- one range, one member, a document

range-as-given : (v : Parts) (r : JsonRange) → is_ordered_range r ≡ true → IsRangeOfAnswer v r (range_says_as_given v r)
range-as-given v r h = record {
  versions = λ k. record {
    ordered = map seen r.events;
    same = IsPermutation-refl (map seen r.events);
    rise = IsSorted-from _ (rw (seen-versions r.events) (rises-from r.events h));
    is = rw (k, before-limits r.events v) refl;
  };
  commits = λ k. rw k refl;
}

member-as-given : (v : Parts) (a : OsvAffected) → is_ordered_member a ≡ true → IsMemberAnswer v a (member_says_as_given v a)
member-as-given v a h = record {
  answers = map (range_says_as_given v) (ranges_of a);
  each = answers-by (IsRangeOfAnswer v) is_ordered_range (range_says_as_given v) (range-as-given v) (ranges_of a) h;
  is = ap (λ b. lists (parts_text v) a || b) (any-says (range_says_as_given v) (ranges_of a));
}

pub answer-as-given : (ecosystem name : List ℕ) (v : Parts) (d : Document) → has_ordered_events d ≡ true
    → IsAnswer ecosystem name v d (says_as_given ecosystem name v d)
answer-as-given ecosystem name v d h =
    let members = filter (is_about ecosystem name) d.affected in
    let ordered = all-filter is_ordered_member (is_about ecosystem name) d.affected h in
    record {
      answers = map (member_says_as_given v) members;
      each = answers-by (IsMemberAnswer v) is_ordered_member (member_says_as_given v) (member-as-given v) members ordered;
      is = any-says (member_says_as_given v) members;
    }
