-- Options, word by word.
use Rattle.std.proofs.Common.{◌≡◌, ◌∙◌, ◌<◌, ◌≤◌, ◌+◌, ◌||◌, ℕ, Bool, true, false, List, [], ◌∷◌, ◌++◌, Bor, Option, Some, None, append-nil, drop, get_or, length, map, option_map, refl, ap, sym}
use Rattle.std.proofs.lemmas.List.{append_assoc, drop_all, drop_more}
use Rattle.std.proofs.lemmas.List.Folds.{list_any-append}
use Rattle.std.proofs.lemmas.List.Sums.{fold-append}
use Rattle.rustsec_values.specs.Reading.{◌>>=◌}
use Rattle.rustsec_database_commands.specs.Options.{AskedValue, LintOption, asked_by, beginning, flag_of, format, has, is_format, last_format, later_format, options_of, set, sets}
use Rattle.rustsec_database_commands.specs.Steps.{asked_after, by_name, given, step, with_option}
use Rattle.rustsec_database_commands.specs.declared.options.Flag.{Flag}
use Rattle.rustsec_database_commands.specs.declared.options.Flag.TheVariants as flag

-- ---- what is asked for with one option more

or-true : (b : Bool) → (b || true) ≡ true
or-true true = refl
or-true false = refl

or-false : (b : Bool) → (b || false) ≡ b
or-false true = refl
or-false false = refl

format-more : (os : List LintOption) (o : LintOption) → last_format (os ++ o ∷ []) ≡ later_format (last_format os) o
format-more os o = fold-append later_format None os (o ∷ [])

has-more : (f : Flag) (os : List LintOption) (o : LintOption) → has f (os ++ o ∷ []) ≡ (has f os || (sets f o || false))
has-more f os o = list_any-append (sets f) os (o ∷ [])

asked-more : (os : List LintOption) (o : Option LintOption) → asked_by (os ++ given o) ≡ with_option (asked_by os) o
asked-more os None = ap asked_by (append-nil os)
asked-more os (Some (set flag.Upstream)) =
    let form = format-more os (set flag.Upstream) in
    let upstream = has-more flag.Upstream os (set flag.Upstream) ∙ or-true (has flag.Upstream os) in
    let progress = has-more flag.Progress os (set flag.Upstream) ∙ or-false (has flag.Progress os) in
    λ i. record { format = form i; upstream = upstream i; progress = progress i }
asked-more os (Some (set flag.Progress)) =
    let form = format-more os (set flag.Progress) in
    let upstream = has-more flag.Upstream os (set flag.Progress) ∙ or-false (has flag.Upstream os) in
    let progress = has-more flag.Progress os (set flag.Progress) ∙ or-true (has flag.Progress os) in
    λ i. record { format = form i; upstream = upstream i; progress = progress i }
asked-more os (Some (format name)) =
    let form = format-more os (format name) in
    let upstream = has-more flag.Upstream os (format name) ∙ or-false (has flag.Upstream os) in
    let progress = has-more flag.Progress os (format name) ∙ or-false (has flag.Progress os) in
    λ i. record { format = form i; upstream = upstream i; progress = progress i }

-- ---- the options of a word and of the words after it

-- some options before others, if there are others
abbrev pub before_all : List LintOption → Option (List LintOption) → Option (List LintOption)
before_all items o = option_map (λ others. items ++ others) o

-- the options that words name after `--format`, or after a whole option
abbrev pub awaited : Bool → List (List ℕ) → Option (List LintOption)
awaited false words = options_of words
awaited true [] = None
awaited true (value ∷ words) = option_map (λ others. format value ∷ others) (options_of words)

abbrev pub stepped : Option (Option LintOption × Bool) → List (List ℕ) → Option (List LintOption)
stepped None words = None
stepped (Some (item, awaits)) words = before_all (given item) (awaited awaits words)

twice : (a b : List LintOption) (o : Option (List LintOption)) → before_all a (before_all b o) ≡ before_all (a ++ b) o
twice a b None = refl
twice a b (Some c) = ap Some (sym (append_assoc a b c))

nothing : (o : Option (List LintOption)) → o ≡ before_all [] o
nothing None = refl
nothing (Some a) = refl

last-word : (f : Option Flag) (b : Bool) → (f >>= λ g. Some (set g ∷ [])) ≡ stepped (by_name f b) []
unfolding options_of
last-word (Some f) b = refl
last-word None true = refl
last-word None false = refl

inner-word : (f : Option Flag) (b : Bool) (next : List ℕ) (words : List (List ℕ))
    → beginning f b next (options_of (next ∷ words)) (options_of words) ≡ stepped (by_name f b) (next ∷ words)
inner-word (Some f) b next words = refl
inner-word None true next words = nothing (awaited true (next ∷ words))
inner-word None false next words = refl

one-word : (awaits : Bool) (word : List ℕ) (words : List (List ℕ)) → awaited awaits (word ∷ words) ≡ stepped (step awaits word) words
unfolding options_of
one-word true word words = refl
one-word false word [] = last-word (flag_of word) (is_format word)
one-word false word (next ∷ words) = inner-word (flag_of word) (is_format word) next words

-- ---- the words that are read so far

-- the options that the words from the i-th on name
abbrev pub rest_of : Bool → List (Bor (List ℕ)) → ℕ → Option (List LintOption)
rest_of awaits words i = awaited awaits (map (λ w. w.now) (drop i words))

-- some options ask for this, and with others after them they are all options
pub record IsReading (all : Option (List LintOption)) (a : AskedValue) (rest : Option (List LintOption)) : Type 0 where
  pub so_far : List LintOption
  pub asked_is : a ≡ asked_by so_far
  pub all_is : all ≡ before_all so_far rest

-- the value that std uses beyond the last word
abbrev pub no_word : Bor (List ℕ)
no_word = record { ref_ptr = (0, 0); now = [] }

-- what is asked for, and whether `--format` still awaits its value
abbrev pub asked-and : AskedValue → Bool → AskedValue × Bool
asked-and a awaits = (a, awaits)

-- the same after a step
abbrev after-step : AskedValue → Option LintOption × Bool → AskedValue × Bool
after-step a s = asked-and (with_option a s.0) s.1

from-step : (s : Option (Option LintOption × Bool)) (a b : AskedValue) (waits : Bool) → Some (asked-and b waits) ≡ option_map (after-step a) s
    → (item : Option LintOption) × ((s ≡ Some (item, waits)) × (b ≡ with_option a item))
from-step None a b waits h = absurd (cc h)
from-step (Some (item, w)) a b waits h =
    let same : asked-and b waits ≡ asked-and (with_option a item) w = cc h in
    let waits_is : waits ≡ w = ap (λ (t : AskedValue × Bool). t.1) same in
    (item, (ap (λ (v : Bool). Some (item, v)) (sym waits_is), ap (λ (t : AskedValue × Bool). t.0) same))

from-none : (s : Option (Option LintOption × Bool)) (a : AskedValue) → None ≡ option_map (after-step a) s → s ≡ None
from-none None a h = refl
from-none (Some t) a h = absurd (cc h)

module _ (all : Option (List LintOption)) (a : AskedValue) (awaits : Bool) (words : List (Bor (List ℕ))) (i : ℕ) where
  here : (d : Bor (List ℕ)) → i < length words → rest_of awaits words i ≡ stepped (step awaits (get_or words i d).now) (map (λ w. w.now) (drop (i + 1) words))
  here d low = ap (λ ws. awaited awaits (map (λ w. w.now) ws)) (drop_more words i d low) ∙ one-word awaits (get_or words i d).now (map (λ w. w.now) (drop (i + 1) words))

  pub after-word : (d : Bor (List ℕ)) (b : AskedValue) (waits : Bool) → i < length words → Some (asked-and b waits) ≡ asked_after a awaits (get_or words i d).now
      → IsReading all a (rest_of awaits words i) → IsReading all b (rest_of waits words (i + 1))
  after-word d b waits low is known =
      let found = from-step (step awaits (get_or words i d).now) a b waits is in
      record {
        so_far = known.so_far ++ given found.0;
        asked_is = found.1.1 ∙ (ap (λ (x : AskedValue). with_option x found.0) known.asked_is ∙ sym (asked-more known.so_far found.0));
        all_is =
            known.all_is
            ∙ (ap (before_all known.so_far) (here d low ∙ ap (λ s. stepped s (map (λ w. w.now) (drop (i + 1) words))) found.1.0)
            ∙ twice known.so_far (given found.0) (rest_of waits words (i + 1)));
      }

  pub after-another : (d : Bor (List ℕ)) → i < length words → None ≡ asked_after a awaits (get_or words i d).now → IsReading all a (rest_of awaits words i)
      → None ≡ option_map asked_by all
  after-another d low is known =
      let step_is = from-none (step awaits (get_or words i d).now) a is in
      let none : all ≡ None
      = known.all_is ∙ ap (before_all known.so_far) (here d low ∙ ap (λ s. stepped s (map (λ w. w.now) (drop (i + 1) words))) step_is) in
      ap (option_map asked_by) (sym none)

at-end : (items : List LintOption) → before_all items (options_of []) ≡ Some items
unfolding options_of
at-end items = ap Some (append-nil items)

pub all-words : (all : Option (List LintOption)) (a : AskedValue) (words : List (Bor (List ℕ))) (i : ℕ) → length words ≤ i
    → IsReading all a (rest_of false words i) → Some a ≡ option_map asked_by all
all-words all a words i high known =
    let whole : all ≡ Some known.so_far
    = known.all_is ∙ (ap (λ ws. before_all known.so_far (options_of (map (λ w. w.now) ws))) (drop_all i words high) ∙ at-end known.so_far) in
    ap Some known.asked_is ∙ ap (option_map asked_by) (sym whole)

pub no-value : (all : Option (List LintOption)) (a : AskedValue) (words : List (Bor (List ℕ))) (i : ℕ) → length words ≤ i
    → IsReading all a (rest_of true words i) → None ≡ option_map asked_by all
no-value all a words i high known =
    let none : all ≡ None = known.all_is ∙ ap (λ ws. before_all known.so_far (awaited true (map (λ w. w.now) ws))) (drop_all i words high) in
    ap (option_map asked_by) (sym none)
