-- The scan for times accepts exactly the times.
use Rattle.std.proofs.Common.{◌≡◌, ◌∙◌, inl, inr, ℕ, ◌+◌, ◌*◌, ◌-◌, ◌<◌, ◌≤◌, ◌==◌, ◌&&◌, true, false, List, [], ◌∷◌, ◌++◌, add-one, arith, ap, codes, drop, get_or, length, length-append, refl, subst, sym, take, take-append-drop}
use Rattle.std.specs.Prelude.{nat_le, nat_lt, slice_index, slice_range}
use Rattle.std.specs.Char.{digit_value, is_ascii_digit}
use Rattle.std.specs.Cmp.Lexicographic.{bytes_decides, pointwise}
use Rattle.std.specs.List.{list_all}
use Rattle.std.specs.Str.{bytes_eq}
use Rattle.std.specs.Str.Parse.{digits_value}
use Rattle.std.proofs.lemmas.Bool.{and_from, and_parts, eq-eqb, eqb-true, le-leb, le-ltb, leb-true, lt-ltb, ltb-true, or_left, or_right}
use Rattle.std.proofs.lemmas.List.{get_or_push, length-take-le, take_all, take_at, take_more}
use Rattle.rustsec_texts.specs.Dates.{Day, days_in_month, is_real_day}
use Rattle.rustsec_osv_rules.specs.schema.TimeScan.{fits, has_leap_second, has_moment, has_real_day, has_time_of_day, has_usual_time, is_fraction, is_time, is_zone, two_digits, year_of}
use Rattle.rustsec_osv_rules.specs.schema.Times.{AreDigits, Clock, IsClock, IsDate, IsFraction, IsSecond, IsTime}
use Rattle.rustsec_osv_rules.proofs.schema.Fields.{or-cases}

-- ---- the number that digits write

digit : (c : ℕ) → is_ascii_digit c ≡ true → digit_value c ≡ c - 48
digit c h =
    let parts = and_parts _ _ h in
    let low : 48 ≤ c = leb-true 48 c parts.0 in
    let high : c ≤ 57 = leb-true c 57 parts.1 in
    rw (le-ltb c 48 low, lt-ltb c 58 (omega arith)) refl

two : (a b : ℕ) → is_ascii_digit a ≡ true → is_ascii_digit b ≡ true → 10 * (a - 48) + (b - 48) ≡ digits_value 10 (a ∷ b ∷ [])
two a b p q = rw (digit a p, digit b q) (omega arith)

four : (a b c d : ℕ) → is_ascii_digit a ≡ true → is_ascii_digit b ≡ true → is_ascii_digit c ≡ true → is_ascii_digit d ≡ true
    → 100 * (10 * (a - 48) + (b - 48)) + (10 * (c - 48) + (d - 48)) ≡ digits_value 10 (a ∷ b ∷ c ∷ d ∷ [])
four a b c d p q r s = rw (digit a p, digit b q, digit c r, digit d s) (omega arith)

-- ---- the zone

last-of : (r : List ℕ) → 0 < length r → r ≡ take (length r - 1) r ++ (get_or r (length r - 1) 0 ∷ [])
last-of r l =
    let all : take (length r - 1 + 1) r ≡ r = take_all (length r - 1 + 1) r (omega (arith, l)) in
    sym all ∙ take_more r (length r - 1) 0 (omega (arith, l))

-- what is before the zone's letter
abbrev HasZone : List ℕ → Type 0
HasZone rest = (fraction : List ℕ) × IsFraction fraction × (rest ≡ fraction ++ codes "Z")

fraction-sound : (rest : List ℕ) → is_fraction rest ≡ true → HasZone rest
fraction-sound [] h = cc h
fraction-sound (x ∷ r) h =
    let long = and_parts (nat_lt 2 (length (x ∷ r))) _ h in
    let n : 2 < length (x ∷ r) = ltb-true 2 (length (x ∷ r)) long.0 in
    let point = and_parts (x == 46) _ long.1 in
    let ends = and_parts (slice_index (x ∷ r) (length (x ∷ r) - 1) == 90) _ point.1 in
    let at : length (x ∷ r) - 1 ≡ length r - 1 + 1 = omega (arith, n) in
    let size : length (x ∷ r) - 1 - 1 ≡ length r - 1 = omega (arith, n) in
    let last : get_or r (length r - 1) 0 ≡ 90 =
    sym (ap (λ i. get_or (x ∷ r) i 0) (at ∙ add-one (length r - 1))) ∙ eqb-true (slice_index (x ∷ r) (length (x ∷ r) - 1)) 90 ends.0 in
    let ds = take (length r - 1) r in
    let digits : list_all is_ascii_digit ds ≡ true = subst (λ (k : ℕ). list_all is_ascii_digit (take k r) ≡ true) size ends.1 in
    let some : 0 < length ds = omega (arith, n, length-take-le (length r - 1) r (omega (arith, n))) in
    let whole : r ≡ ds ++ codes "Z" = last-of r (omega (arith, n)) ∙ ap (λ (b : ℕ). ds ++ (b ∷ [])) last in
    (46 ∷ ds, inr (ds, some, digits, refl), ap (λ (b : ℕ). b ∷ r) (eqb-true x 46 point.0) ∙ ap (λ (t : List ℕ). 46 ∷ t) whole)

zone-sound : (rest : List ℕ) → is_zone rest ≡ true → HasZone rest
zone-sound rest h = elim (or-cases (bytes_eq rest (codes "Z")) (is_fraction rest) h) [
  | inl e ↦ ([], inl refl, (bytes_decides rest (codes "Z")).0 e)
  | inr e ↦ fraction-sound rest e
]

zone-complete : (rest : List ℕ) → HasZone rest → is_zone rest ≡ true
zone-complete rest (fraction, inl none, e) =
    or_left (bytes_eq rest (codes "Z")) _ ((bytes_decides rest (codes "Z")).1 (e ∙ ap (λ (t : List ℕ). t ++ codes "Z") none))
zone-complete rest (fraction, inr (ds, some, digits, point), e) =
    let is : rest ≡ 46 ∷ (ds ++ codes "Z") = e ∙ ap (λ (t : List ℕ). t ++ codes "Z") point in
    let n : length (46 ∷ (ds ++ codes "Z")) ≡ length ds + 2 = omega (arith, length-append ds (codes "Z")) in
    let at : length (46 ∷ (ds ++ codes "Z")) - 1 ≡ length ds + 1 = omega (arith, n) in
    let size : length (46 ∷ (ds ++ codes "Z")) - 1 - 1 ≡ length ds = omega (arith, n) in
    let last : slice_index (46 ∷ (ds ++ codes "Z")) (length (46 ∷ (ds ++ codes "Z")) - 1) ≡ 90 =
    ap (λ i. get_or (46 ∷ (ds ++ codes "Z")) i 0) (at ∙ add-one (length ds)) ∙ get_or_push ds 90 0 (length ds) refl in
    let inner : slice_range (46 ∷ (ds ++ codes "Z")) 1 (length (46 ∷ (ds ++ codes "Z")) - 1) ≡ ds =
    ap (λ k. take k (ds ++ codes "Z")) size ∙ take_at ds (codes "Z") (length ds) refl in
    or_right (bytes_eq rest (codes "Z")) _ (subst (λ (t : List ℕ). is_fraction t ≡ true) (sym is)
    (and_from (nat_lt 2 (length (46 ∷ (ds ++ codes "Z")))) _ (lt-ltb 2 _ (omega (arith, n, some)))
    (and_from (slice_index (46 ∷ (ds ++ codes "Z")) (length (46 ∷ (ds ++ codes "Z")) - 1) == 90) _ (rw last refl)
    (subst (λ (t : List ℕ). list_all is_ascii_digit t ≡ true) (sym inner) digits))))

-- ---- a time, digit by digit

module _ (a b c d e f g h i j k l m n : ℕ) (rest : List ℕ) (pa : is_ascii_digit a ≡ true) (pb : is_ascii_digit b ≡ true) (pc : is_ascii_digit c ≡ true)
    (pd : is_ascii_digit d ≡ true) (pe : is_ascii_digit e ≡ true) (pf : is_ascii_digit f ≡ true) (pg : is_ascii_digit g ≡ true) (ph : is_ascii_digit h ≡ true)
    (pi : is_ascii_digit i ≡ true) (pj : is_ascii_digit j ≡ true) (pk : is_ascii_digit k ≡ true) (pl : is_ascii_digit l ≡ true) (pm : is_ascii_digit m ≡ true)
    (pn : is_ascii_digit n ≡ true) where
  abbrev text : List ℕ
  text = a ∷ b ∷ c ∷ d ∷ 45 ∷ e ∷ f ∷ 45 ∷ g ∷ h ∷ 84 ∷ i ∷ j ∷ 58 ∷ k ∷ l ∷ 58 ∷ m ∷ n ∷ rest

  -- its numbers
  abbrev date : Day
  date = record { year = year_of text; month = two_digits text 5; day = two_digits text 8 }

  abbrev clock : Clock
  clock = record { hour = two_digits text 11; minute = two_digits text 14; second = two_digits text 17 }

  pair : (x y : ℕ) → is_ascii_digit x ≡ true → is_ascii_digit y ≡ true → AreDigits 2 (x ∷ y ∷ []) (10 * (x - 48) + (y - 48))
  pair x y p q = record { count = refl; digits = and_from (is_ascii_digit x) _ p (and_from (is_ascii_digit y) _ q refl); value = two x y p q }

  is-date : has_real_day text ≡ true → IsDate (a ∷ b ∷ c ∷ d ∷ 45 ∷ e ∷ f ∷ 45 ∷ g ∷ h ∷ []) date
  is-date real = record {
    year = a ∷ b ∷ c ∷ d ∷ [];
    is_year = record {
      count = refl;
      digits = and_from (is_ascii_digit a) _ pa (and_from (is_ascii_digit b) _ pb (and_from (is_ascii_digit c) _ pc (and_from (is_ascii_digit d) _ pd refl)));
      value = four a b c d pa pb pc pd;
    };
    month = e ∷ f ∷ [];
    is_month = pair e f pe pf;
    day = g ∷ h ∷ [];
    is_day = pair g h pg ph;
    exists = real;
    is = refl;
  }

  made-clock : clock.hour ≤ 23 → clock.minute ≤ 59 → IsSecond date clock → IsClock (i ∷ j ∷ 58 ∷ k ∷ l ∷ 58 ∷ m ∷ n ∷ []) date clock
  made-clock hours minutes seconds = record {
    hour = i ∷ j ∷ [];
    is_hour = pair i j pi pj;
    minute = k ∷ l ∷ [];
    is_minute = pair k l pk pl;
    second = m ∷ n ∷ [];
    is_second = pair m n pm pn;
    hour_range = hours;
    minute_range = minutes;
    second_range = seconds;
    is = refl;
  }

  usual-clock : has_usual_time text ≡ true → IsClock (i ∷ j ∷ 58 ∷ k ∷ l ∷ 58 ∷ m ∷ n ∷ []) date clock
  usual-clock usual =
      let first = and_parts (nat_le clock.hour 23) _ usual in
      let second = and_parts (nat_le clock.minute 59) _ first.1 in
      made-clock (leb-true clock.hour 23 first.0) (leb-true clock.minute 59 second.0) (inl (leb-true clock.second 59 second.1))

  leap-clock : has_leap_second text ≡ true → IsClock (i ∷ j ∷ 58 ∷ k ∷ l ∷ 58 ∷ m ∷ n ∷ []) date clock
  leap-clock leap =
      let both = and_parts (bytes_eq (slice_range text 11 19) (codes "23:59:60")) _ leap in
      let same : i ∷ j ∷ 58 ∷ k ∷ l ∷ 58 ∷ m ∷ n ∷ [] ≡ codes "23:59:60" = (bytes_decides (slice_range text 11 19) (codes "23:59:60")).0 both.0 in
      let hour : clock.hour ≡ 23 = ap (λ t. two_digits t 0) same in
      let minute : clock.minute ≡ 59 = ap (λ t. two_digits t 3) same in
      let second : clock.second ≡ 60 = ap (λ t. two_digits t 6) same in
      made-clock (omega (arith, hour)) (omega (arith, minute))
      (inr (hour, minute, second, eqb-true date.day (days_in_month date.year date.month) both.1))

  some-clock : has_time_of_day text ≡ true → IsClock (i ∷ j ∷ 58 ∷ k ∷ l ∷ 58 ∷ m ∷ n ∷ []) date clock
  some-clock either = elim (or-cases (has_usual_time text) (has_leap_second text) either) [
    | inl usual ↦ usual-clock usual
    | inr leap ↦ leap-clock leap
  ]

  parts-sound : (has_moment text && is_zone rest) ≡ true → IsTime text
  parts-sound kept =
      let parts = and_parts (has_moment text) (is_zone rest) kept in
      let moment = and_parts (has_real_day text) (has_time_of_day text) parts.0 in
      let zone = zone-sound rest parts.1 in
      record {
        date = date;
        clock = clock;
        date_text = a ∷ b ∷ c ∷ d ∷ 45 ∷ e ∷ f ∷ 45 ∷ g ∷ h ∷ [];
        is_date = is-date moment.0;
        clock_text = i ∷ j ∷ 58 ∷ k ∷ l ∷ 58 ∷ m ∷ n ∷ [];
        is_clock = some-clock moment.1;
        fraction = zone.0;
        is_fraction = zone.1;
        is = ap (λ (r : List ℕ). a ∷ b ∷ c ∷ d ∷ 45 ∷ e ∷ f ∷ 45 ∷ g ∷ h ∷ 84 ∷ i ∷ j ∷ 58 ∷ k ∷ l ∷ 58 ∷ m ∷ n ∷ r) zone.2;
      }

  shape : pointwise fits (codes "0000-00-00T00:00:00") (take 19 text) ≡ true
  shape =
      and_from (is_ascii_digit a) _ pa (and_from (is_ascii_digit b) _ pb (and_from (is_ascii_digit c) _ pc (and_from (is_ascii_digit d) _ pd
      (and_from (is_ascii_digit e) _ pe (and_from (is_ascii_digit f) _ pf (and_from (is_ascii_digit g) _ pg (and_from (is_ascii_digit h) _ ph
      (and_from (is_ascii_digit i) _ pi (and_from (is_ascii_digit j) _ pj (and_from (is_ascii_digit k) _ pk (and_from (is_ascii_digit l) _ pl
      (and_from (is_ascii_digit m) _ pm (and_from (is_ascii_digit n) _ pn refl)))))))))))))

  -- the leap second's text
  leap-text : clock.hour ≡ 23 → clock.minute ≡ 59 → clock.second ≡ 60 → bytes_eq (slice_range text 11 19) (codes "23:59:60") ≡ true
  leap-text hour minute second =
      let di = range i pi in let dj = range j pj in let dk = range k pk in let dl = range l pl in let dm = range m pm in let dn = range n pn in
      let ei : i ≡ 50 = omega (arith, hour, di.0, di.1, dj.0, dj.1) in
      let ej : j ≡ 51 = omega (arith, hour, di.0, di.1, dj.0, dj.1) in
      let ek : k ≡ 53 = omega (arith, minute, dk.0, dk.1, dl.0, dl.1) in
      let el : l ≡ 57 = omega (arith, minute, dk.0, dk.1, dl.0, dl.1) in
      let em : m ≡ 54 = omega (arith, second, dm.0, dm.1, dn.0, dn.1) in
      let en : n ≡ 48 = omega (arith, second, dm.0, dm.1, dn.0, dn.1) in
      rw (ei, ej, ek, el, em, en) refl
    where
      range : (x : ℕ) → is_ascii_digit x ≡ true → (48 ≤ x) × (x ≤ 57)
      range x p = let parts = and_parts (nat_le 48 x) _ p in (leb-true 48 x parts.0, leb-true x 57 parts.1)

  parts-complete : is_real_day date ≡ true → clock.hour ≤ 23 → clock.minute ≤ 59 → IsSecond date clock → HasZone rest → is_time text ≡ true
  parts-complete real hours minutes seconds zone =
      and_from (pointwise fits (codes "0000-00-00T00:00:00") (take 19 text)) _ shape
      (and_from (has_moment text) _ (and_from (has_real_day text) _ real (of seconds)) (zone-complete rest zone))
    where
      of : IsSecond date clock → has_time_of_day text ≡ true
      of (inl usual) = or_left (has_usual_time text) _
          (and_from (nat_le clock.hour 23) _ (le-leb clock.hour 23 hours) (and_from (nat_le clock.minute 59) _ (le-leb clock.minute 59 minutes) (le-leb clock.second 59 usual)))
      of (inr leap) = or_right (has_usual_time text) _
          (and_from (bytes_eq (slice_range text 11 19) (codes "23:59:60")) _ (leap-text leap.0 leap.1 leap.2) (eq-eqb date.day (days_in_month date.year date.month) leap.3))

-- ---- a text of the shape

-- two digits, and what is after them
record HasPair (shape text : List ℕ) : Type 0 where
  x : ℕ
  y : ℕ
  rest : List ℕ
  is : text ≡ x ∷ y ∷ rest
  px : is_ascii_digit x ≡ true
  py : is_ascii_digit y ≡ true
  kept : pointwise fits shape rest ≡ true

pair-of : (shape text : List ℕ) → pointwise fits (48 ∷ 48 ∷ shape) text ≡ true → HasPair shape text
pair-of shape [] h = cc h
pair-of shape (x ∷ []) h = let p = and_parts (is_ascii_digit x) false h in absurd-false p.1
  where
    absurd-false : {A : Type 0} → false ≡ true → A
    absurd-false e = cc e
pair-of shape (x ∷ y ∷ rest) h =
    let p = and_parts (is_ascii_digit x) _ h in
    let q = and_parts (is_ascii_digit y) _ p.1 in
    record { x = x; y = y; rest = rest; is = refl; px = p.0; py = q.0; kept = q.1 }

-- a byte, and what is after it
record HasMark (c : ℕ) (shape text : List ℕ) : Type 0 where
  rest : List ℕ
  is : text ≡ c ∷ rest
  kept : pointwise fits shape rest ≡ true

mark-of : (c : ℕ) (shape text : List ℕ) → (c == 48) ≡ false → pointwise fits (c ∷ shape) text ≡ true → HasMark c shape text
mark-of c shape [] e h = cc h
mark-of c shape (x ∷ rest) e h =
    let p = and_parts (fits c x) _ h in
    let is : (x == c) ≡ true = rw e at p.0 in
    record { rest = rest; is = ap (λ (b : ℕ). b ∷ rest) (eqb-true x c is); kept = p.1 }

nothing : (text : List ℕ) → pointwise fits [] text ≡ true → text ≡ []
nothing [] h = refl
nothing (x ∷ rest) h = cc h

pub time-sound : (t : List ℕ) → is_time t ≡ true → IsTime t
time-sound t h =
    let both = and_parts (pointwise fits (codes "0000-00-00T00:00:00") (take 19 t)) _ h in
    let y = pair-of (codes "00-00-00T00:00:00") (take 19 t) both.0 in
    let z = pair-of (codes "-00-00T00:00:00") y.rest y.kept in
    let a = mark-of 45 (codes "00-00T00:00:00") z.rest refl z.kept in
    let m = pair-of (codes "-00T00:00:00") a.rest a.kept in
    let b = mark-of 45 (codes "00T00:00:00") m.rest refl m.kept in
    let d = pair-of (codes "T00:00:00") b.rest b.kept in
    let c = mark-of 84 (codes "00:00:00") d.rest refl d.kept in
    let hour = pair-of (codes ":00:00") c.rest c.kept in
    let e = mark-of 58 (codes "00:00") hour.rest refl hour.kept in
    let minute = pair-of (codes ":00") e.rest e.kept in
    let f = mark-of 58 (codes "00") minute.rest refl minute.kept in
    let second = pair-of [] f.rest f.kept in
    let clock : d.rest ≡ 84 ∷ hour.x ∷ hour.y ∷ 58 ∷ minute.x ∷ minute.y ∷ 58 ∷ second.x ∷ second.y ∷ [] =
    c.is ∙ ap (λ (r : List ℕ). 84 ∷ r) (hour.is ∙ ap (λ (r : List ℕ). hour.x ∷ hour.y ∷ r) (e.is ∙ ap (λ (r : List ℕ). 58 ∷ r) (minute.is
    ∙ ap (λ (r : List ℕ). minute.x ∷ minute.y ∷ r) (f.is ∙ ap (λ (r : List ℕ). 58 ∷ r) (second.is
    ∙ ap (λ (r : List ℕ). second.x ∷ second.y ∷ r) (nothing second.rest second.kept)))))) in
    let front : take 19 t ≡ y.x ∷ y.y ∷ z.x ∷ z.y ∷ 45 ∷ m.x ∷ m.y ∷ 45 ∷ d.x ∷ d.y ∷ 84 ∷ hour.x ∷ hour.y ∷ 58 ∷ minute.x ∷ minute.y ∷ 58 ∷ second.x ∷ second.y ∷ [] =
    y.is ∙ ap (λ (r : List ℕ). y.x ∷ y.y ∷ r) (z.is ∙ ap (λ (r : List ℕ). z.x ∷ z.y ∷ r) (a.is ∙ ap (λ (r : List ℕ). 45 ∷ r) (m.is
    ∙ ap (λ (r : List ℕ). m.x ∷ m.y ∷ r) (b.is ∙ ap (λ (r : List ℕ). 45 ∷ r) (d.is ∙ ap (λ (r : List ℕ). d.x ∷ d.y ∷ r) clock))))) in
    let is : t ≡ y.x ∷ y.y ∷ z.x ∷ z.y ∷ 45 ∷ m.x ∷ m.y ∷ 45 ∷ d.x ∷ d.y ∷ 84 ∷ hour.x ∷ hour.y ∷ 58 ∷ minute.x ∷ minute.y ∷ 58 ∷ second.x ∷ second.y ∷ drop 19 t =
    sym (take-append-drop 19 t) ∙ ap (λ (r : List ℕ). r ++ drop 19 t) front in
    subst IsTime (sym is)
    (parts-sound y.x y.y z.x z.y m.x m.y d.x d.y hour.x hour.y minute.x minute.y second.x second.y (drop 19 t) y.px y.py z.px z.py m.px m.py d.px d.py hour.px
    hour.py minute.px minute.py second.px second.py (subst (λ (x : List ℕ). (has_moment x && is_zone (drop 19 t)) ≡ true) is both.1))

-- ---- the digits of a time

-- two digits and their number
record ArePair (text : List ℕ) (v : ℕ) : Type 0 where
  x : ℕ
  y : ℕ
  is : text ≡ x ∷ y ∷ []
  px : is_ascii_digit x ≡ true
  py : is_ascii_digit y ≡ true
  value : v ≡ 10 * (x - 48) + (y - 48)

pair-from : (text : List ℕ) (v : ℕ) → AreDigits 2 text v → ArePair text v
pair-from [] v h = absurd (omega (arith, h.count))
pair-from (x ∷ []) v h = absurd (omega (arith, h.count))
pair-from (x ∷ y ∷ z ∷ rest) v h = absurd (omega (arith, h.count))
pair-from (x ∷ y ∷ []) v h =
    let p = and_parts (is_ascii_digit x) _ h.digits in
    let q = and_parts (is_ascii_digit y) _ p.1 in
    record { x = x; y = y; is = refl; px = p.0; py = q.0; value = h.value ∙ sym (two x y p.0 q.0) }

-- four digits and their number
record AreFour (text : List ℕ) (v : ℕ) : Type 0 where
  w : ℕ
  x : ℕ
  y : ℕ
  z : ℕ
  is : text ≡ w ∷ x ∷ y ∷ z ∷ []
  pw : is_ascii_digit w ≡ true
  px : is_ascii_digit x ≡ true
  py : is_ascii_digit y ≡ true
  pz : is_ascii_digit z ≡ true
  value : v ≡ 100 * (10 * (w - 48) + (x - 48)) + (10 * (y - 48) + (z - 48))

four-from : (text : List ℕ) (v : ℕ) → AreDigits 4 text v → AreFour text v
four-from [] v h = absurd (omega (arith, h.count))
four-from (w ∷ []) v h = absurd (omega (arith, h.count))
four-from (w ∷ x ∷ []) v h = absurd (omega (arith, h.count))
four-from (w ∷ x ∷ y ∷ []) v h = absurd (omega (arith, h.count))
four-from (w ∷ x ∷ y ∷ z ∷ a ∷ rest) v h = absurd (omega (arith, h.count))
four-from (w ∷ x ∷ y ∷ z ∷ []) v h =
    let p = and_parts (is_ascii_digit w) _ h.digits in
    let q = and_parts (is_ascii_digit x) _ p.1 in
    let r = and_parts (is_ascii_digit y) _ q.1 in
    let s = and_parts (is_ascii_digit z) _ r.1 in
    record { w = w; x = x; y = y; z = z; is = refl; pw = p.0; px = q.0; py = r.0; pz = s.0; value = h.value ∙ sym (four w x y z p.0 q.0 r.0 s.0) }

pub time-complete : (t : List ℕ) → IsTime t → is_time t ≡ true
time-complete t time =
    let y = four-from time.is_date.year time.date.year time.is_date.is_year in
    let m = pair-from time.is_date.month time.date.month time.is_date.is_month in
    let d = pair-from time.is_date.day time.date.day time.is_date.is_day in
    let hour = pair-from time.is_clock.hour time.clock.hour time.is_clock.is_hour in
    let minute = pair-from time.is_clock.minute time.clock.minute time.is_clock.is_minute in
    let second = pair-from time.is_clock.second time.clock.second time.is_clock.is_second in
    let rest = time.fraction ++ codes "Z" in
    let day : Day = date y.w y.x y.y y.z m.x m.y d.x d.y hour.x hour.y minute.x minute.y second.x second.y rest y.pw y.px y.py y.pz m.px m.py d.px d.py hour.px hour.py
    minute.px minute.py second.px second.py in
    let of_day : Clock = clock y.w y.x y.y y.z m.x m.y d.x d.y hour.x hour.y minute.x minute.y second.x second.y rest y.pw y.px y.py y.pz m.px m.py d.px d.py hour.px
    hour.py minute.px minute.py second.px second.py in
    let same_day : time.date ≡ day = λ p. record { year = y.value p; month = m.value p; day = d.value p } in
    let same_clock : time.clock ≡ of_day = λ p. record { hour = hour.value p; minute = minute.value p; second = second.value p } in
    let dates : time.date_text ≡ y.w ∷ y.x ∷ y.y ∷ y.z ∷ 45 ∷ m.x ∷ m.y ∷ 45 ∷ d.x ∷ d.y ∷ [] =
    time.is_date.is ∙ (λ p. y.is p ++ (codes "-" ++ (m.is p ++ (codes "-" ++ d.is p)))) in
    let clocks : time.clock_text ≡ hour.x ∷ hour.y ∷ 58 ∷ minute.x ∷ minute.y ∷ 58 ∷ second.x ∷ second.y ∷ [] =
    time.is_clock.is ∙ (λ p. hour.is p ++ (codes ":" ++ (minute.is p ++ (codes ":" ++ second.is p)))) in
    subst (λ (x : List ℕ). is_time x ≡ true) (sym (time.is ∙ (λ p. dates p ++ (codes "T" ++ (clocks p ++ rest)))))
    (parts-complete y.w y.x y.y y.z m.x m.y d.x d.y hour.x hour.y minute.x minute.y second.x second.y rest y.pw y.px y.py y.pz m.px m.py d.px d.py hour.px hour.py
    minute.px minute.py second.px second.py (subst (λ (x : Day). is_real_day x ≡ true) same_day time.is_date.exists)
    (subst (λ (c : Clock). c.hour ≤ 23) same_clock time.is_clock.hour_range) (subst (λ (c : Clock). c.minute ≤ 59) same_clock time.is_clock.minute_range)
    (subst (λ (x : Day). IsSecond x of_day) same_day (subst (λ (c : Clock). IsSecond time.date c) same_clock time.is_clock.second_range))
    (time.fraction, time.is_fraction, refl))
