-- Dropping pairs of neighbours at one version from rising events that take turns changes nothing that they say.
use Rattle.std.proofs.Common.{◌≡◌, ◌∙◌, ◌&&◌, Bool, true, false, cond, List, [], ◌∷◌, ap, inl, inr, map, refl, sym}
use Rattle.std.specs.Prelude.{not}
use Rattle.std.specs.List.{AllByRecursion}
use Rattle.std.proofs.lemmas.Bool.{and_parts, cases_Bool}
use Rattle.semver.specs.Parse.{Parts}
use Rattle.rustsec_versions.specs.order.Precedence.{is_at_most, is_below}
use Rattle.rustsec_versions.proofs.lemmas.order.PrecedenceLaws.{at_most-trans, below-at_most, below-not_at_most, not_at_most}
use Rattle.rustsec_versions.proofs.lemmas.order.Rising.{Rises, Rises-tail}
use Rattle.rustsec_osv.specs.DocumentEvents.{Event, fixed, introduced, last_affected}
use Rattle.rustsec_osv_rules.specs.evaluation.Event.{seen}
use Rattle.rustsec_osv_rules.specs.evaluation.Order.{at}
use Rattle.rustsec_osv_rules.specs.evaluation.Pairs.{are_at_one, normalized}
use Rattle.rustsec_osv_rules.proofs.evaluation.OneOrder.{Other, Own, tie}
use Rattle.rustsec_osv_rules.proofs.evaluation.Saying.{say, say-fixed, say-fixed_above, say-introduced, say-introduced_above}
use Rattle.rustsec_osv_rules.proofs.evaluation.Turning.{Turns}

second-false : (a b : Bool) → a ≡ true → (a && b) ≡ false → b ≡ false
second-false true b h k = k
second-false false b h k = cc h

-- ---- events above a version change nothing

abbrev Above : Parts → List Event → Type 0
Above v es = AllByRecursion (λ e. is_below v (at e) ≡ true) es

below-first : (v w : Parts) (es : List Event) → is_below v w ≡ true → Rises (w ∷ map at es) → Above v es
below-first v w [] h r = tt
below-first v w (e ∷ es) h r =
    let here = below-at_most v w (at e) h r.0 in
    (here, below-first v (at e) es here r.1)

say-above : (v : Parts) (before first : Bool) (es : List Event) → Turns first es → Above v es → say v before es ≡ before
say-above v before first [] t a = refl
say-above v before first (introduced w ∷ es) t a =
    say-introduced_above v w before es (below-not_at_most v w a.0) ∙ say-above v before false es t.1 a.1
say-above v before first (fixed w ∷ es) t a = say-fixed_above v w before es (below-not_at_most v w a.0) ∙ say-above v before true es t.1 a.1
say-above v before first (last_affected w ∷ es) t a = absurd t

-- ---- what is left

module _ (P : Event → Type 0) where
  kept_if : (e : Event) (one : Bool) (some all : List Event) → P e → AllByRecursion P some → AllByRecursion P all
      → AllByRecursion P (cond one some (e ∷ all))
  kept_if e true some all p a b = a
  kept_if e false some all p a b = (p, b)

  kept : (es : List Event) → AllByRecursion P es → AllByRecursion P (normalized es)
  kept [] a = tt
  kept (e ∷ []) a = a
  kept (e ∷ f ∷ es) a = kept_if e (are_at_one e f) (normalized es) (normalized (f ∷ es)) a.0 (kept es a.1.1) (kept (f ∷ es) a.1)

-- a list that takes turns does so without its first two events
tail-turns : (first : Bool) (e : Event) (es : List Event) → Turns first (e ∷ es) → Turns (not first) es
tail-turns first (introduced v) es t = rw t.0 t.1
tail-turns first (fixed v) es t = rw t.0 t.1
tail-turns first (last_affected v) es t = absurd t

cons-turns : (first : Bool) (e : Event) (es fs : List Event) → Turns first (e ∷ es) → Turns (not first) fs → Turns first (e ∷ fs)
cons-turns first (introduced v) es fs t u = (t.0, rw t.0 at u)
cons-turns first (fixed v) es fs t u = (t.0, rw t.0 at u)
cons-turns first (last_affected v) es fs t u = absurd t

twice : (b : Bool) → not (not b) ≡ b
twice true = refl
twice false = refl

turns_if : (first : Bool) (e : Event) (one : Bool) (rest some all : List Event) → Turns first (e ∷ rest) → Turns first some → Turns (not first) all
    → Turns first (cond one some (e ∷ all))
turns_if first e true rest some all t u w = u
turns_if first e false rest some all t u w = cons-turns first e rest all t w

pub normalized-turns : (first : Bool) (es : List Event) → Turns first es → Turns first (normalized es)
normalized-turns first [] t = tt
normalized-turns first (e ∷ []) t = t
normalized-turns first (e ∷ f ∷ es) t =
    let one = tail-turns first e (f ∷ es) t in
    let two = tail-turns (not first) f es one in
    turns_if first e (are_at_one e f) (f ∷ es) (normalized es) (normalized (f ∷ es)) t (normalized-turns first es (rw (twice first) at two))
    (normalized-turns (not first) (f ∷ es) one)

-- ---- it rises strictly

abbrev Higher : Parts → List Event → Type 0
Higher v es = AllByRecursion (λ e. is_at_most v (at e) ≡ true) es

lower : (v w : Parts) (es : List Event) → is_at_most v w ≡ true → Higher w es → Higher v es
lower v w [] h a = tt
lower v w (e ∷ es) h a = (at_most-trans v w (at e) h a.0, lower v w es h a.1)

higher-from : (v : Parts) (es : List Event) → Rises (v ∷ map at es) → Higher v es
higher-from v [] r = tt
higher-from v (e ∷ es) r = (r.0, lower v (at e) es r.0 (higher-from (at e) es r.1))

never : (b : Bool) → (b && false) ≡ false
never true = refl
never false = refl

ties : (v w : Parts) → is_below v w ≡ true → tie v w ≡ false
ties v w h = rw (below-not_at_most v w h) (never (is_at_most v w))

-- events above a version are not at it
other-above : (v : Parts) (es : List Event) → Above v es → Other v (map seen es)
other-above v [] a = tt
other-above v (e ∷ es) a = (ties v (at e) a.0, other-above v es a.1)

strictly : (v : Parts) (f : Event) (es : List Event) → is_below v (at f) ≡ true → Higher (at f) es → Above v es
strictly v f [] h a = tt
strictly v f (e ∷ es) h a = (below-at_most v (at f) (at e) h a.0, strictly v f es h a.1)

own_if : (e : Event) (one : Bool) (some all : List Event) → Own (map seen some) → (one ≡ false → Own (map seen (e ∷ all)))
    → Own (map seen (cond one some (e ∷ all)))
own_if e true some all o p = o
own_if e false some all o p = p refl

pub normalized-own : (es : List Event) → Rises (map at es) → Own (map seen (normalized es))
normalized-own [] r = tt
normalized-own (e ∷ []) r = (tt, tt)
normalized-own (e ∷ f ∷ es) r =
    own_if e (are_at_one e f) (normalized es) (normalized (f ∷ es)) (normalized-own es (Rises-tail (at f) (map at es) r.1))
    (λ other.
    let up : is_below (at e) (at f) ≡ true = not_at_most (at f) (at e) (second-false _ _ r.0 other) in
    let all : Above (at e) (f ∷ es) = (up, strictly (at e) f es up (higher-from (at f) es r.1)) in
    (other-above (at e) (normalized (f ∷ es)) (kept (λ x. is_below (at e) (at x) ≡ true) (f ∷ es) all), normalized-own (f ∷ es) r.1))

rises_cons : (v : Parts) (es : List Event) → Higher v es → Rises (map at es) → Rises (v ∷ map at es)
rises_cons v [] h r = tt
rises_cons v (e ∷ es) h r = (h.0, r)

rises_if : (e : Event) (one : Bool) (some all : List Event) → Rises (map at some) → Rises (map at all) → Higher (at e) all
    → Rises (map at (cond one some (e ∷ all)))
rises_if e true some all s r h = s
rises_if e false some all s r h = rises_cons (at e) all h r

-- it still rises
pub normalized-rises : (es : List Event) → Rises (map at es) → Rises (map at (normalized es))
normalized-rises [] r = tt
normalized-rises (e ∷ []) r = tt
normalized-rises (e ∷ f ∷ es) r = rises_if e (are_at_one e f) (normalized es) (normalized (f ∷ es)) (normalized-rises es (Rises-tail (at f) (map at es) r.1))
    (normalized-rises (f ∷ es) r.1) (kept (λ x. is_at_most (at e) (at x) ≡ true) (f ∷ es) (higher-from (at e) (f ∷ es) r))

-- ---- it says the same

not-higher : (x w v : Parts) → is_at_most w x ≡ true → is_at_most w v ≡ false → is_at_most x v ≡ false
not-higher x w v h k = elim (cases_Bool (is_at_most x v)) [
  | inl low ↦ cc (sym k ∙ at_most-trans w x v h low)
  | inr high ↦ high
]

-- after a pair at one version that takes turns, the answer is what it was before
pair-says : (v : Parts) (first : Bool) (e f : Event) (es : List Event) → Turns first (e ∷ f ∷ es) → are_at_one e f ≡ true
    → say v (not first) (e ∷ f ∷ es) ≡ say v (not first) es
pair-says v first (introduced w) (fixed x) es t one = elim (cases_Bool (is_at_most w v)) [
  | inl low ↦
      say-introduced v w (not first) (fixed x ∷ es) low
      ∙ (say-fixed v x true es (at_most-trans x w v (and_parts _ _ one).1 low) ∙ sym (ap (λ b. say v (not b) es) t.0))
  | inr high ↦
      say-introduced_above v w (not first) (fixed x ∷ es) high
      ∙ say-fixed_above v x (not first) es (not-higher x w v (and_parts _ _ one).0 high)
]
pair-says v first (fixed w) (introduced x) es t one = elim (cases_Bool (is_at_most w v)) [
  | inl low ↦
      say-fixed v w (not first) (introduced x ∷ es) low
      ∙ (say-introduced v x false es (at_most-trans x w v (and_parts _ _ one).1 low) ∙ sym (ap (λ b. say v (not b) es) t.0))
  | inr high ↦
      say-fixed_above v w (not first) (introduced x ∷ es) high
      ∙ say-introduced_above v x (not first) es (not-higher x w v (and_parts _ _ one).0 high)
]
pair-says v first (introduced w) (introduced x) es t one = cc t.1.0
pair-says v first (fixed w) (fixed x) es t one = cc t.1.0
pair-says v first (introduced w) (last_affected x) es t one = absurd t.1
pair-says v first (fixed w) (last_affected x) es t one = absurd t.1
pair-says v first (last_affected w) f es t one = absurd t

-- the answer after an event at or below the version
said-after : (v : Parts) (first : Bool) (e : Event) (es rest : List Event) → Turns first (e ∷ rest) → is_at_most (at e) v ≡ true
    → say v (not first) (e ∷ es) ≡ say v (not (not first)) es
said-after v first (introduced w) es rest t h = say-introduced v w (not first) es h ∙ sym (ap (λ b. say v (not (not b)) es) t.0)
said-after v first (fixed w) es rest t h = say-fixed v w (not first) es h ∙ sym (ap (λ b. say v (not (not b)) es) t.0)
said-after v first (last_affected w) es rest t h = absurd t

says_if : (v : Parts) (first : Bool) (e : Event) (one : Bool) (some all : List Event) (answer : Bool) → (one ≡ true → say v (not first) some ≡ answer)
    → (one ≡ false → say v (not first) (e ∷ all) ≡ answer) → say v (not first) (cond one some (e ∷ all)) ≡ answer
says_if v first e true some all answer h k = h refl
says_if v first e false some all answer h k = k refl

pub normalized-says : (v : Parts) (first : Bool) (es : List Event) → Turns first es → Rises (map at es) → say v (not first) (normalized es) ≡ say v (not first) es
normalized-says v first [] t r = refl
normalized-says v first (e ∷ []) t r = refl
normalized-says v first (e ∷ f ∷ es) t r =
    let one = tail-turns first e (f ∷ es) t in
    let two : Turns first es = rw (twice first) at (tail-turns (not first) f es one) in
    says_if v first e (are_at_one e f) (normalized es) (normalized (f ∷ es)) (say v (not first) (e ∷ f ∷ es))
    (λ tied. normalized-says v first es two (Rises-tail (at f) (map at es) r.1) ∙ sym (pair-says v first e f es t tied))
    (λ other. elim (cases_Bool (is_at_most (at e) v)) [
      | inl low ↦
          said-after v first e (normalized (f ∷ es)) (f ∷ es) t low
          ∙ (normalized-says v (not first) (f ∷ es) one r.1 ∙ sym (said-after v first e (f ∷ es) (f ∷ es) t low))
      | inr high ↦
          let below : is_below v (at e) ≡ true = not_at_most (at e) v high in
          let all : Above v (e ∷ f ∷ es) = (below, below-first v (at e) (f ∷ es) below r) in
          let left : Above v (e ∷ normalized (f ∷ es)) = (below, kept (λ x. is_below v (at x) ≡ true) (f ∷ es) (below-first v (at e) (f ∷ es) below r)) in
          say-above v (not first) first (e ∷ normalized (f ∷ es)) (cons-turns first e (f ∷ es) (normalized (f ∷ es)) t (normalized-turns (not first) (f ∷ es) one)) left
          ∙ sym (say-above v (not first) first (e ∷ f ∷ es) t all)
    ])
