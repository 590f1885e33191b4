-- The interval of a requirement and Cargo's matching agree on each release if they agree on the first patches.
use Rattle.std.proofs.Common.{◌≡◌, ◌<◌, ◌≤◌, ◌+◌, ◌∙◌, ℕ, length, map, take, slice_index_or, Bool, List, [], ◌∷◌, None, Some, false, true, inl, inr, refl, subst, sym}
use Rattle.std.specs.Prelude.{◌&&◌, unwrap_or}
use Rattle.std.specs.List.{All, Any}
use Rattle.std.proofs.lemmas.Bool.{cases_Bool}
use Rattle.std.proofs.lemmas.List.{get_or-map, length-map, map_more, take_all}
use Rattle.std.proofs.lemmas.List.Elements.{All-append, All-cons, All-head, All-nil, All-tail}
use Rattle.semver.specs.Identifiers.{comparator_view}
use Rattle.semver.specs.declared.Comparator.{Comparator}
use Rattle.semver.specs.EvalViews.{view_op}
use Rattle.semver.specs.Parse.{Held, Parts}
use Rattle.rustsec_versions.specs.interval.Interval.{Endpoint, Interval, exclusive, holds, inclusive, is_after, is_before, reaches, unbounded}
use Rattle.rustsec_versions.specs.order.Precedence.{is_at_most, is_below, precedence}
use Rattle.rustsec_versions.specs.requirement.Requirement.{Side, interval_of, lower, neither, of_sides, side_of, stated, upper}
use Rattle.rustsec_versions.proofs.lemmas.order.PrecedenceLaws.{at_most-below, at_most-trans, below-at_most, below-weak, not_at_most}
use Rattle.rustsec_versions.specs.Matching.{Agree, IsRelease, LeavesLast, first_patch}
use Rattle.rustsec_versions.proofs.MatchedRequirements.{admitted-is, and-swap, both, given, none-or-some, of-one, of-release, of-two, some-same}
use Rattle.rustsec_versions.proofs.Sides.{EndOr, StartOr, end-or, start-or}
use Rattle.rustsec_versions.proofs.Single.{one-agrees}

true-or-false : {P : Type 0} (b : Bool) → b ≡ true → b ≡ false → P
true-or-false b h k = absurd (cc (sym h ∙ k))

-- ---- two comparators

-- what is past the end of an interval is past its start
past-start : (s : Endpoint) (w k : Parts) → reaches precedence s (inclusive w) ≡ true → is_below w k ≡ true → is_after s k ≡ true
past-start unbounded w k in_order past = refl
past-start (exclusive t) w k in_order past = below-at_most t w k in_order (below-weak w k past)
past-start (inclusive t) w k in_order past = at_most-trans t w k in_order (below-weak w k past)

-- what is at or below a version before the end is before the end
before-down : (e : Endpoint) (k v : Parts) → is_at_most k v ≡ true → is_before e v ≡ true → is_before e k ≡ true
before-down unbounded k v low h = refl
before-down (exclusive t) k v low h = at_most-below k v t low h
before-down (inclusive t) k v low h = at_most-trans k v t low h

not-before : (e : Endpoint) (k v : Parts) → is_at_most k v ≡ true → is_before e k ≡ false → is_before e v ≡ false
not-before e k v low h = elim (cases_Bool (is_before e v)) [
  | inl before ↦ true-or-false (is_before e k) (before-down e k v low before) h
  | inr past ↦ past
]

-- a release that only the second one of each holds
last-differs : {P : Type 0} (a b c d : Bool) → (a && b) ≡ (c && d) → a ≡ true → b ≡ false → c ≡ true → d ≡ true → P
last-differs a b c d same h k l m = absurd (cc (sym (rw (h, k, l, m) at same)))

first-false : (a b c d : Bool) → (a && b) ≡ (c && d) → a ≡ true → c ≡ false → b ≡ false
first-false a b c d same h k = rw (h, k) at same

abbrev end_of : Held → Parts
end_of d = (d.1, unwrap_or d.2 0, 0, [], [])

-- a start, an end and their comparators agree on a version
abbrev AgreeBoth : Held → Held → Endpoint → Endpoint → Parts → Type 0
AgreeBoth c d s e v = (is_after s v && is_before e v) ≡ (view_op c.0 c v && view_op d.0 d v)

module _ (c d : Held) (s e : Endpoint) (in_order : reaches precedence s e ≡ true) where
  pair-agrees : StartOr c s → EndOr d e → AgreeBoth c d s e (first_patch c) → AgreeBoth c d s e (first_patch d) → (v : Parts) → v.3 ≡ []
      → AgreeBoth c d s e v
  pair-agrees (inl start) (inl end) at on v none = both (is_after s v) (is_before e v) (view_op c.0 c v) (view_op d.0 d v) (start v none) (end v none)
  pair-agrees (inl start) (inr end) at on v none =
      let k = first_patch d in
      let past : is_after s k ≡ true
      = past-start s (end_of d) k (subst (λ (x : Endpoint). reaches precedence s x ≡ true) end.end in_order)
      (not_at_most k (end_of d) (subst (λ (x : Endpoint). is_before x k ≡ false) end.end end.not_held)) in
      last-differs (is_after s k) (is_before e k) (view_op c.0 c k) (view_op d.0 d k) on past end.not_held (sym (start k refl) ∙ past) end.is_matched
  pair-agrees (inr start) (inl end) at on v none =
      let k = first_patch c in
      let not_held : is_before e k ≡ false = first-false (is_after s k) (is_before e k) (view_op c.0 c k) (view_op d.0 d k) at start.is_held start.not_matched in
      elim (cases_Bool (view_op c.0 c v)) [
        | inl matched ↦ both (is_after s v) (is_before e v) (view_op c.0 c v) (view_op d.0 d v) (start.held v none matched ∙ sym matched) (end v none)
        | inr other ↦ elim (cases_Bool (is_after s v)) [
          | inl after ↦ let past : is_before e v ≡ false = not-before e k v (start.least v none after other) not_held in rw (after, other, past) refl
          | inr before ↦ rw (before, other) refl
        ]
      ]
  pair-agrees (inr start) (inr end) at on v none =
      let k = first_patch c in
      let not_held : is_before e k ≡ false = first-false (is_after s k) (is_before e k) (view_op c.0 c k) (view_op d.0 d k) at start.is_held start.not_matched in
      let below : is_at_most k (end_of d) ≡ true = start.below d.1 (unwrap_or d.2 0) (subst (λ (x : Endpoint). reaches precedence s x ≡ true) end.end in_order) in
      true-or-false (is_before e k) (subst (λ (x : Endpoint). is_before x k ≡ true) (sym end.end) below) not_held

-- ---- a requirement

-- a start and an end
sides-agree : (c d : Held) (s e : Endpoint) → LeavesLast c → LeavesLast d → side_of c.0 c ≡ lower s → side_of d.0 d ≡ upper e → reaches precedence s e ≡ true
    → AgreeBoth c d s e (first_patch c) → AgreeBoth c d s e (first_patch d) → (v : Parts) → v.3 ≡ [] → AgreeBoth c d s e v
sides-agree c d s e one other is also in_order = pair-agrees c d s e in_order (start-or c s one is) (end-or d e other also)

abbrev AgreeTwo : Held → Held → Interval → Parts → Type 0
AgreeTwo c d i v = holds i v ≡ (view_op c.0 c v && view_op d.0 d v)

-- the same with the end before the start
turned : (c d : Held) (i : Interval) (v : Parts) → AgreeTwo c d i v → AgreeTwo d c i v
turned c d i v h = h ∙ and-swap (view_op c.0 c v) (view_op d.0 d v)

two-agree : (c d : Held) (i : Interval) → LeavesLast c → LeavesLast d → (a b : Side) → side_of c.0 c ≡ a → side_of d.0 d ≡ b → of_sides a b ≡ Some i
    → reaches precedence i.start i.end ≡ true → AgreeTwo c d i (first_patch c) → AgreeTwo c d i (first_patch d) → (v : Parts) → v.3 ≡ [] → AgreeTwo c d i v
two-agree c d i one other (lower s) (upper e) is also same in_order at on v none =
    let is_i = some-same (record { start = s; end = e }) i same in
    subst (λ (j : Interval). AgreeTwo c d j v) is_i
    (sides-agree c d s e one other is also (subst (λ (j : Interval). reaches precedence j.start j.end ≡ true) (sym is_i) in_order)
    (subst (λ (j : Interval). AgreeTwo c d j (first_patch c)) (sym is_i) at) (subst (λ (j : Interval). AgreeTwo c d j (first_patch d)) (sym is_i) on) v none)
two-agree c d i one other (upper e) (lower s) is also same in_order at on v none =
    let is_i = some-same (record { start = s; end = e }) i same in
    subst (λ (j : Interval). AgreeTwo c d j v) is_i
    (turned d c (record { start = s; end = e }) v
    (sides-agree d c s e other one also is (subst (λ (j : Interval). reaches precedence j.start j.end ≡ true) (sym is_i) in_order)
    (turned c d (record { start = s; end = e }) (first_patch d) (subst (λ (j : Interval). AgreeTwo c d j (first_patch d)) (sym is_i) on))
    (turned c d (record { start = s; end = e }) (first_patch c) (subst (λ (j : Interval). AgreeTwo c d j (first_patch c)) (sym is_i) at)) v none))
two-agree c d i one other (lower s) (lower t) is also same in_order at on v none = cc same
two-agree c d i one other (lower s) neither is also same in_order at on v none = cc same
two-agree c d i one other (upper e) (upper f) is also same in_order at on v none = cc same
two-agree c d i one other (upper e) neither is also same in_order at on v none = cc same
two-agree c d i one other neither b is also same in_order at on v none = cc same

abbrev pub AgreeAtPatches : List Held → Interval → Type 0
AgreeAtPatches cs i = All (λ c. Agree cs i (first_patch c)) cs

pub agreement : (cs : List Held) (i : Interval) → All LeavesLast cs → interval_of cs ≡ Some i → AgreeAtPatches cs i → (v : Parts) → v.3 ≡ [] → Agree cs i v
agreement [] i last is at v none =
    let found = admitted-is (stated []) i is in
    let same = some-same (record { start = unbounded; end = unbounded }) i found.0 in
    subst (λ (j : Interval). Agree [] j v) same (sym (of-release [] v none))
agreement (c ∷ []) i last is at v none =
    let found = admitted-is (stated (c ∷ [])) i is in
    let first = first_patch c in
    let at_first = All-head (λ d. Agree (c ∷ []) i (first_patch d)) c [] at in
    one-agrees i v none c (All-head LeavesLast c [] last) (given _ _ i found.0) (at_first ∙ of-one c first refl) ∙ sym (of-one c v none)
agreement (c ∷ d ∷ []) i last is at v none =
    let found = admitted-is (stated (c ∷ d ∷ [])) i is in
    let at_first = All-head (λ e. Agree (c ∷ d ∷ []) i (first_patch e)) c (d ∷ []) at in
    let at_second = All-head (λ e. Agree (c ∷ d ∷ []) i (first_patch e)) d [] (All-tail (λ e. Agree (c ∷ d ∷ []) i (first_patch e)) c (d ∷ []) at) in
    two-agree c d i (All-head LeavesLast c (d ∷ []) last) (All-head LeavesLast d [] (All-tail LeavesLast c (d ∷ []) last)) (side_of c.0 c) (side_of d.0 d) refl refl
    (given _ _ i found.0) found.1 (at_first ∙ of-two c d (first_patch c) refl) (at_second ∙ of-two c d (first_patch d) refl) v none ∙ sym (of-two c d v none)
agreement (c ∷ d ∷ e ∷ rest) i last is at v none =
    let found = admitted-is (stated (c ∷ d ∷ e ∷ rest)) i is in
    let none_three : None ≡ Some i = given _ _ i found.0 in
    none-or-some i none_three

-- where they agree on the first patches of an interval of the requirement, they agree on each release
pub none-found : (cs : List Held) (j i : Interval) → interval_of cs ≡ Some j → AgreeAtPatches cs j → All LeavesLast cs → interval_of cs ≡ Some i → (v : Parts)
    → IsRelease v → Agree cs i v
none-found cs j i is at last also v release =
    agreement cs i last also (subst (λ k. AgreeAtPatches cs k) (some-same j i (sym is ∙ also)) at) v release.none

-- ---- the comparators of a requirement, one after the other

abbrev pub AgreeOnFirst : List Held → Interval → Held → Type 0
AgreeOnFirst cs i c = Agree cs i (first_patch c)

pub first-more : (cs : List Held) (i : Interval) (items : List Comparator) (k : ℕ) (d : Comparator) → k < length items
    → All (AgreeOnFirst cs i) (map comparator_view (take k items)) → AgreeOnFirst cs i (comparator_view (slice_index_or items k d))
    → All (AgreeOnFirst cs i) (map comparator_view (take (k + 1) items))
first-more cs i items k d within before at =
    let so_far = map comparator_view (take k items) in
    let last = comparator_view (slice_index_or items k d) in
    subst (All (AgreeOnFirst cs i)) (sym (map_more comparator_view items k d within))
    (All-append (AgreeOnFirst cs i) so_far (last ∷ []) before (All-cons (AgreeOnFirst cs i) last [] at (All-nil (AgreeOnFirst cs i))))

pub first-all : (cs : List Held) (i : Interval) (items : List Comparator) (k : ℕ) → length items ≤ k
    → All (AgreeOnFirst cs i) (map comparator_view (take k items)) → All (AgreeOnFirst cs i) (map comparator_view items)
first-all cs i items k past h = subst (λ xs. All (AgreeOnFirst cs i) (map comparator_view xs)) (take_all k items past) h

-- one of the comparators is the one at a place
pub any-at : (P : Held → Type 0) (items : List Comparator) (k : ℕ) (d : Comparator) → k < length items → P (comparator_view (slice_index_or items k d))
    → Any P (map comparator_view items)
any-at P items k d within holds =
    let c = comparator_view (slice_index_or items k d) in
    (k, c, subst (λ n. k < n) (sym (length-map items comparator_view)) within, get_or-map comparator_view items k d c within, holds)
