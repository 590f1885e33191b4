-- Options, word by word.
use Rattle.std.proofs.Common.{◌≡◌, ◌∙◌, ◌<◌, ◌≤◌, ◌+◌, ◌||◌, ℕ, Bool, List, [], ◌∷◌, ◌++◌, Bor, Option, Some, None, append-nil, drop, get_or, inl, inr, length, map, option_map, refl, ap, sym, take}
use Rattle.std.specs.List.{list_any}
use Rattle.std.proofs.lemmas.List.{append_assoc, drop_all, drop_more, map_more}
use Rattle.std.proofs.lemmas.List.Elements.{filter_map-append}
use Rattle.rustsec_values.specs.Reading.{◌>>=◌}
use Rattle.rustsec_values.specs.Failure.{Failure, IsMemory, IsOfKind, IsRefusal}
use Rattle.rustsec_values.specs.declared.error.ErrorKind.{ErrorKind}
use Rattle.rustsec_program.specs.CheckOptions.{CheckOption, beginning, flag_of, key_of, options_of, set, value_for, valued, values_of}
use Rattle.rustsec_program.specs.Steps.{by_name, given, item_view, step}
use Rattle.rustsec_program.specs.declared.keys.Flag.{Flag}
use Rattle.rustsec_program.specs.declared.keys.Key.{Key}
use Rattle.rustsec_program.specs.declared.options.Item as declared

-- some options before others, if there are others
abbrev pub before_all : List CheckOption → Option (List CheckOption) → Option (List CheckOption)
before_all items o = option_map (λ others. items ++ others) o

-- the options that words name after a key, or after a whole option
abbrev pub awaited : Option Key → List (List ℕ) → Option (List CheckOption)
awaited None words = options_of words
awaited (Some k) [] = None
awaited (Some k) (value ∷ words) = option_map (λ others. valued k value ∷ others) (options_of words)

-- the options of a word and of the words after it
abbrev pub stepped : Option (Option CheckOption × Option Key) → List (List ℕ) → Option (List CheckOption)
stepped None words = None
stepped (Some (item, awaits)) words = before_all (given item) (awaited awaits words)

twice : (a b : List CheckOption) (o : Option (List CheckOption)) → before_all a (before_all b o) ≡ before_all (a ++ b) o
twice a b None = refl
twice a b (Some c) = ap Some (sym (append_assoc a b c))

nothing : (o : Option (List CheckOption)) → o ≡ before_all [] o
nothing None = refl
nothing (Some a) = refl

last-word : (f : Option Flag) (k : Option Key) → (f >>= λ g. Some (set g ∷ [])) ≡ stepped (by_name f k) []
unfolding options_of
last-word (Some f) k = refl
last-word None (Some k) = refl
last-word None None = refl

inner-word : (f : Option Flag) (k : Option Key) (next : List ℕ) (words : List (List ℕ))
    → beginning f k next (options_of (next ∷ words)) (options_of words) ≡ stepped (by_name f k) (next ∷ words)
inner-word (Some f) k next words = refl
inner-word None (Some k) next words = nothing (awaited (Some k) (next ∷ words))
inner-word None None next words = refl

-- ---- one more word

pub one-word : (awaits : Option Key) (word : List ℕ) (words : List (List ℕ)) → awaited awaits (word ∷ words) ≡ stepped (step awaits word) words
unfolding options_of
one-word (Some k) word words = refl
one-word None word [] = last-word (flag_of word) (key_of word)
one-word None word (next ∷ words) = inner-word (flag_of word) (key_of word) next words

-- ---- words as references

-- the options that the words from the i-th on name
abbrev pub rest_of : Option Key → List (Bor (List ℕ)) → ℕ → Option (List CheckOption)
rest_of awaits words i = awaited awaits (map (λ w. w.now) (drop i words))

-- the value that std uses beyond the last word
abbrev pub no_word : Bor (List ℕ)
no_word = record { ref_ptr = (0, 0); now = [] }

module _ (all : Option (List CheckOption)) (items : List CheckOption) (awaits : Option Key) (words : List (Bor (List ℕ))) (i : ℕ) where
  here : (d : Bor (List ℕ)) → i < length words → rest_of awaits words i ≡ stepped (step awaits (get_or words i d).now) (map (λ w. w.now) (drop (i + 1) words))
  here d low = ap (λ ws. awaited awaits (map (λ w. w.now) ws)) (drop_more words i d low) ∙ one-word awaits (get_or words i d).now (map (λ w. w.now) (drop (i + 1) words))

  pub after-word : (d : Bor (List ℕ)) (item : Option CheckOption) (next : Option Key) → i < length words → step awaits (get_or words i d).now ≡ Some (item, next)
      → all ≡ before_all items (rest_of awaits words i) → all ≡ before_all (items ++ given item) (rest_of next words (i + 1))
  after-word d item next low is known =
      known ∙ (ap (before_all items) (here d low ∙ ap (λ s. stepped s (map (λ w. w.now) (drop (i + 1) words))) is) ∙ twice items (given item) (rest_of next words (i + 1)))

  pub after-another : (d : Bor (List ℕ)) → i < length words → step awaits (get_or words i d).now ≡ None → all ≡ before_all items (rest_of awaits words i)
      → None ≡ all
  after-another d low is known =
      sym (known ∙ ap (before_all items) (here d low ∙ ap (λ s. stepped s (map (λ w. w.now) (drop (i + 1) words))) is))

at-end : (items : List CheckOption) → before_all items (options_of []) ≡ Some items
unfolding options_of
at-end items = ap Some (append-nil items)

pub all-words : (all : Option (List CheckOption)) (items : List CheckOption) (words : List (Bor (List ℕ))) (i : ℕ) → length words ≤ i
    → all ≡ before_all items (rest_of None words i) → Some items ≡ all
all-words all items words i high known =
    sym (known ∙ (ap (λ ws. before_all items (options_of (map (λ w. w.now) ws))) (drop_all i words high) ∙ at-end items))

pub no-value : (all : Option (List CheckOption)) (items : List CheckOption) (k : Key) (words : List (Bor (List ℕ))) (i : ℕ) → length words ≤ i
    → all ≡ before_all items (rest_of (Some k) words i) → None ≡ all
no-value all items k words i high known =
    sym (known ∙ ap (λ ws. before_all items (awaited (Some k) (map (λ w. w.now) ws))) (drop_all i words high))

-- ---- what options say

pub any_map : {A B : Type 0} (f : B → Bool) (g : A → B) (xs : List A) → list_any (λ x. f (g x)) xs ≡ list_any f (map g xs)
any_map f g [] = refl
any_map f g (x ∷ xs) = ap (λ b. f (g x) || b) (any_map f g xs)

pub values-more : (k : Key) (items : List declared.Item) (i : ℕ) (d : declared.Item) (old new : List (List ℕ)) → i < length items
    → old ≡ values_of k (map item_view (take i items)) → new ≡ old ++ values_of k (item_view (get_or items i d) ∷ [])
    → new ≡ values_of k (map item_view (take (i + 1) items))
values-more k items i d old new low was is =
    is ∙ (ap (λ vs. vs ++ values_of k (item_view (get_or items i d) ∷ [])) was
    ∙ (sym (filter_map-append (value_for k) (map item_view (take i items)) (item_view (get_or items i d) ∷ []))
    ∙ ap (values_of k) (sym (map_more item_view items i d low))))

-- ---- refusals

-- an error that names the place of another one is refused for what the other one is refused for
pub refused-there : {k : ErrorKind} {A B : Type 0} {e : Failure} (f : Failure) → (A → B) → IsRefusal k A e → IsOfKind e.kind f
    → (IsMemory e → IsMemory f) → IsRefusal k B f
refused-there f weaker (inl (is, a)) (inl same) memory = inl (same ∙ is, weaker a)
refused-there f weaker (inl (is, a)) (inr out) memory = inr out
refused-there f weaker (inr out) kind memory = inr (memory out)
