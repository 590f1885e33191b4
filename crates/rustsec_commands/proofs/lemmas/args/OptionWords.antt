-- Options of `audit`, word by word.
use Rattle.std.proofs.Common.{◌≡◌, ◌∙◌, ◌<◌, ◌≤◌, ◌+◌, ℕ, Bool, true, false, ◌||◌, List, [], ◌∷◌, ◌++◌, Bor, Option, Some, None, append-nil, codes, drop, get_or, length, map, option_map, refl, ap, sym}
use Rattle.std.specs.Str.{bytes_eq}
use Rattle.std.proofs.lemmas.Slice.Eq.{bytes_eq-Decides}
use Rattle.std.proofs.lemmas.List.{append_assoc, drop_all, drop_more}
use Rattle.rustsec_commands.specs.args.Options.{Options, no_options, options_of, with_denied, with_ignored}

-- some options, and others after them
abbrev pub followed_by : Options → Options → Options
followed_by a b = record { ignored = a.ignored ++ b.ignored; deny_warnings = a.deny_warnings || b.deny_warnings }

-- as `followed_by`, or `None` if the others are `None`
abbrev pub followed_by_all : Options → Option Options → Option Options
followed_by_all a o = option_map (followed_by a) o

-- the options that words name after `--ignore`, or after a whole option
abbrev pub awaited : Bool → List (List ℕ) → Option Options
awaited true words = options_of (codes "--ignore" ∷ words)
awaited false words = options_of words

-- options with one more ID after the others
abbrev pub also : Options → List ℕ → Options
also a id = record { ignored = a.ignored ++ id ∷ []; deny_warnings = a.deny_warnings }

or_true : (d : Bool) → (d || true) ≡ true
or_true true = refl
or_true false = refl

or_false : (d : Bool) → (d || false) ≡ d
or_false true = refl
or_false false = refl

denied : (a b : Options) → followed_by a (with_denied b) ≡ followed_by (with_denied a) b
denied a b i = record { ignored = a.ignored ++ b.ignored; deny_warnings = or_true a.deny_warnings i }

ignored : (a b : Options) (id : List ℕ) → followed_by a (with_ignored id b) ≡ followed_by (also a id) b
ignored a b id i = record { ignored = sym (append_assoc a.ignored (id ∷ []) b.ignored) i; deny_warnings = a.deny_warnings || b.deny_warnings }

followed_by_none : (a : Options) → followed_by a no_options ≡ a
followed_by_none a i = record { ignored = append-nil a.ignored i; deny_warnings = or_false a.deny_warnings i }

all_denied : (a : Options) (o : Option Options) → followed_by_all a (option_map with_denied o) ≡ followed_by_all (with_denied a) o
all_denied a None = refl
all_denied a (Some b) = ap Some (denied a b)

all_ignored : (a : Options) (id : List ℕ) (o : Option Options) → followed_by_all a (option_map (with_ignored id) o) ≡ followed_by_all (also a id) o
all_ignored a id None = refl
all_ignored a id (Some b) = ap Some (ignored a b id)

-- ---- one more word

pub denies : (a : Options) (word : List ℕ) (words : List (List ℕ)) → bytes_eq word (codes "--deny-warnings") ≡ true
    → followed_by_all a (awaited false (word ∷ words)) ≡ followed_by_all (with_denied a) (awaited false words)
unfolding options_of
denies a word [] is = rw is (ap Some (denied a no_options))
denies a word (next ∷ words) is = rw is (all_denied a (options_of (next ∷ words)))

pub ignores : (a : Options) (id : List ℕ) (words : List (List ℕ))
    → followed_by_all a (awaited true (id ∷ words)) ≡ followed_by_all (also a id) (awaited false words)
unfolding options_of
ignores a id words = all_ignored a id (options_of words)

pub awaits : (a : Options) (word : List ℕ) (words : List (List ℕ)) → word ≡ codes "--ignore"
    → followed_by_all a (awaited false (word ∷ words)) ≡ followed_by_all a (awaited true words)
awaits a word words is = ap (λ w. followed_by_all a (options_of (w ∷ words))) is

pub another : (word : List ℕ) (words : List (List ℕ)) → bytes_eq word (codes "--deny-warnings") ≡ false
    → bytes_eq word (codes "--ignore") ≡ false → awaited false (word ∷ words) ≡ None
unfolding options_of
another word [] denies ignores = rw denies refl
another word (next ∷ words) denies ignores = rw (denies, ignores) refl

-- ---- no more words

pub whole : (a : Options) → followed_by_all a (awaited false []) ≡ Some a
unfolding options_of
whole a = ap Some (followed_by_none a)

pub unfinished : awaited true [] ≡ None
unfolding options_of
unfinished = refl

-- ---- words as references

-- the options that the words from the i-th on name
abbrev pub rest_of : Bool → List (Bor (List ℕ)) → ℕ → Option Options
rest_of awaits words i = awaited awaits (map (λ w. w.now) (drop i words))

pub rest-more : (awaits : Bool) (words : List (Bor (List ℕ))) (i : ℕ) (d : Bor (List ℕ)) → i < length words
    → rest_of awaits words i ≡ awaited awaits ((get_or words i d).now ∷ map (λ w. w.now) (drop (i + 1) words))
rest-more awaits words i d low = ap (λ ws. awaited awaits (map (λ w. w.now) ws)) (drop_more words i d low)

pub rest-end : (awaits : Bool) (words : List (Bor (List ℕ))) (i : ℕ) → length words ≤ i → rest_of awaits words i ≡ awaited awaits []
rest-end awaits words i high = ap (λ ws. awaited awaits (map (λ w. w.now) ws)) (drop_all i words high)

-- the value that std uses beyond the last word
abbrev pub no_word : Bor (List ℕ)
no_word = record { ref_ptr = (0, 0); now = [] }

module _ (all : Option Options) (ignored : List (List ℕ)) (deny : Bool) (words : List (Bor (List ℕ))) (i : ℕ) (d : Bor (List ℕ)) where
  abbrev so_far : Options
  so_far = record { ignored = ignored; deny_warnings = deny }

  pub after-id : i < length words → all ≡ followed_by_all so_far (rest_of true words i)
      → all ≡ followed_by_all (also so_far (get_or words i d).now) (rest_of false words (i + 1))
  after-id low is = is ∙ ap (followed_by_all so_far) (rest-more true words i d low) ∙ ignores so_far _ _

  pub after-ignore : i < length words → bytes_eq (get_or words i d).now (codes "--ignore") ≡ true → all ≡ followed_by_all so_far (rest_of false words i)
      → all ≡ followed_by_all so_far (rest_of true words (i + 1))
  after-ignore low word is = is ∙ ap (followed_by_all so_far) (rest-more false words i d low) ∙ awaits so_far _ _ ((bytes_eq-Decides _ _).0 word)

  pub after-deny : i < length words → bytes_eq (get_or words i d).now (codes "--deny-warnings") ≡ true → all ≡ followed_by_all so_far (rest_of false words i)
      → all ≡ followed_by_all (with_denied so_far) (rest_of false words (i + 1))
  after-deny low word is = is ∙ ap (followed_by_all so_far) (rest-more false words i d low) ∙ denies so_far _ _ word

  pub after-another : i < length words → bytes_eq (get_or words i d).now (codes "--deny-warnings") ≡ false
      → bytes_eq (get_or words i d).now (codes "--ignore") ≡ false → all ≡ followed_by_all so_far (rest_of false words i) → None ≡ all
  after-another low denies ignores is = sym (is ∙ ap (followed_by_all so_far) (rest-more false words i d low ∙ another _ _ denies ignores))

  pub after-all : length words ≤ i → all ≡ followed_by_all so_far (rest_of false words i) → Some so_far ≡ all
  after-all high is = sym (is ∙ ap (followed_by_all so_far) (rest-end false words i high) ∙ whole so_far)

  pub after-no-id : length words ≤ i → all ≡ followed_by_all so_far (rest_of true words i) → None ≡ all
  after-no-id high is = sym (is ∙ ap (followed_by_all so_far) (rest-end true words i high ∙ unfinished))
