-- Sorted events rise, and answers so far.
use Rattle.std.proofs.Common.{◌≡◌, ◌∙◌, ◌+◌, ◌<◌, ◌||◌, ◌&&◌, ◌++◌, ℕ, suc, zero, Bool, false, true, List, [], ◌∷◌, Bor, ap, arith, get_or, length, map, refl, subst, sym, take}
use Rattle.std.specs.List.{list_any}
use Rattle.std.specs.List.Sorted.{IsSorted, IsSortedByKey}
use Rattle.std.proofs.lemmas.List.{map_more}
use Rattle.std.proofs.lemmas.Bool.{or_left, or_right}
use Rattle.rustsec_versions.specs.order.Precedence.{precedence}
use Rattle.rustsec_versions.proofs.lemmas.order.PrecedenceLaws.{not_below}
use Rattle.rustsec_versions.proofs.lemmas.order.Rising.{IsSorted-from, Rises}
use Rattle.rustsec_files.specs.Listed.{Pairwise}
use Rattle.rustsec_files.proofs.Lists.{pairwise-push, pairwise-step}
use Rattle.rustsec_osv_rules.specs.evaluation.Document.{are_any}
use Rattle.rustsec_osv_rules.specs.evaluation.Event.{event_view, version_of}
use Rattle.rustsec_osv_rules.specs.declared.evaluation.event.Event as given

keyed-rises : (xs : List given.Event) → IsSortedByKey (λ e. version_of (event_view e)) precedence xs → Rises (map version_of (map event_view xs))
keyed-rises [] h = tt
keyed-rises (x ∷ []) h = tt
keyed-rises (x ∷ y ∷ xs) h = (
  not_below (version_of (event_view y)) (version_of (event_view x)) (h 0 x (omega arith) (omega arith)),
  keyed-rises (y ∷ xs) (λ k d low high. let e : suc k + 1 ≡ suc (k + 1) = omega arith in rw e at (h (suc k) d (omega arith) (omega arith))),
)

-- events that are sorted by their versions
pub sorted-rise : (xs : List given.Event) → IsSortedByKey (λ e. version_of (event_view e)) precedence xs
    → IsSorted precedence (map version_of (map event_view xs))
sorted-rise xs h = IsSorted-from (map version_of (map event_view xs)) (keyed-rises xs h)

-- ---- answers one by one

any-push : (answers : List Bool) (b : Bool) → are_any (answers ++ b ∷ []) ≡ (are_any answers || b)
any-push [] true = refl
any-push [] false = refl
any-push (true ∷ answers) b = refl
any-push (false ∷ answers) b = any-push answers b

-- whether some elements have answers, and one of these is yes
abbrev pub AreSoFar : {A : Type 0} → (A → Bool → Type 0) → List A → Bool → Type 0
AreSoFar R xs any = (answers : List Bool) × (Pairwise R xs answers × (any ≡ are_any answers))

pub none-so-far : {A : Type 0} (R : A → Bool → Type 0) → AreSoFar R [] false
none-so-far R = ([], (tt, refl))

pub one-more : {A : Type 0} (R : A → Bool → Type 0) (xs : List A) (i : ℕ) (x : A) (before after answer : Bool) → i < length xs → x ≡ get_or xs i x
    → AreSoFar R (take i xs) before → R x answer → after ≡ (before || answer) → AreSoFar R (take (i + 1) xs) after
one-more R xs i x before after answer low is (answers, (each, any)) h next =
    (answers ++ answer ∷ [], (pairwise-step R xs answers i x answer low is each h, next ∙ (ap (λ b. b || answer) any ∙ sym (any-push answers answer))))

pub one-more-now : {A : Type 0} (R : A → Bool → Type 0) (xs : List (Bor A)) (i : ℕ) (x : Bor A) (before after answer : Bool) → i < length xs
    → x ≡ get_or xs i x → AreSoFar R (map (λ y. y.now) (take i xs)) before → R x.now answer → after ≡ (before || answer)
    → AreSoFar R (map (λ y. y.now) (take (i + 1) xs)) after
one-more-now {A} R xs i x before after answer low is (answers, (each, any)) h next =
    rw (map_more (λ (y : Bor A). y.now) xs i x low) (
      answers ++ answer ∷ [],
      (
        pairwise-push R (map (λ y. y.now) (take i xs)) answers (get_or xs i x).now answer each (subst (λ (y : Bor A). R y.now answer) is h),
        next ∙ (ap (λ b. b || answer) any ∙ sym (any-push answers answer)),
      ),
    )

-- ---- what `||` and `&&` give

pub or-yes : (before after answer : Bool) → before ≡ true → after ≡ true → after ≡ (before || answer)
or-yes true after answer h k = k
or-yes false after answer h k = cc h

pub or-other : (before after answer : Bool) → before ≡ false → after ≡ answer → after ≡ (before || answer)
or-other true after answer h k = cc h
or-other false after answer h k = k

pub and-yes : (a b both : Bool) → a ≡ true → both ≡ b → both ≡ (a && b)
and-yes true b both h k = k
and-yes false b both h k = cc h

pub and-no : (a b both : Bool) → a ≡ false → both ≡ false → both ≡ (a && b)
and-no true b both h k = cc h
and-no false b both h k = k

-- ---- an element that passes a test

pub any-at : {X Y : Type 0} (f : Y → X) (p : X → Bool) (ys : List Y) (i : ℕ) (y : Y) → i < length ys → y ≡ get_or ys i y → p (f y) ≡ true
    → list_any p (map f ys) ≡ true
any-at f p [] i y low is h = absurd (omega arith)
any-at f p (z ∷ ys) zero y low is h = or_left (p (f z)) (list_any p (map f ys)) (ap (λ q. p (f q)) (sym is) ∙ h)
any-at f p (z ∷ ys) (suc i) y low is h = or_right (p (f z)) (list_any p (map f ys)) (any-at f p ys i y (omega arith) is h)
