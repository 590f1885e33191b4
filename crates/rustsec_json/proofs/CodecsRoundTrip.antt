-- The codec of an object gives each value for its own tree, and what it reads is made of the values at the keys.
use Rattle.std.proofs.Common.{◌≡◌, ◌∙◌, ◌&&◌, ◌||◌, ℕ, Bool, true, false, not, List, [], ◌∷◌, All, map, Option, Some, None, option_map, refl, ap, subst}
use Rattle.std.specs.Prelude.{⊤}
use Rattle.std.proofs.lemmas.List.Elements.{All-head, All-tail}
use Rattle.std.specs.Cmp.Lexicographic.{bytes_decides}
use Rattle.std.specs.Str.{bytes_eq}
use Rattle.std.proofs.lemmas.Bool.{not-true}
use Rattle.std.specs.Cmp.{first_so, second_so}
use Rattle.serde_json.specs.Data.{Data, Members, no_members}
use Rattle.serde_json.specs.Find.{as_null, get_member}
use Rattle.serde_json.specs.View.{items_of}
use Rattle.serde_json.proofs.Views.{get_member-put, get_member-put_other}
use Rattle.rustsec_values.specs.Reading.{◌>>=◌, read_all, value_or}
use Rattle.rustsec_json.specs.Codecs.{Codec, Field, Fields, IfThere, Object, again_in, any_text, field, keys_in, list_codec, members_in, members_of, no_more, object_codec, put_some, read_in, text_codec, word_codec}
use Rattle.rustsec_json.specs.Fields.{list_of, or_null}
use Rattle.rustsec_json.specs.Trees.{optional_tree}

-- ---- laws

-- a codec whose trees are read again, and are not null
pub record IsLawful {A : Type 0} (c : Codec A) : Type 0 where
  pub again : (x : A) → c.IsAgain x → c.read (c.tree x) ≡ Some x
  pub there : (x : A) → as_null (c.tree x) ≡ None

-- a key at which each value is read again
abbrev pub IsLawfulField : {A : Type 0} → Field A → Type 0
IsLawfulField {A} f = (x : A) → f.IsAgain x → f.read (f.tree x) ≡ Some x

-- whether a list of keys has a key
abbrev has_key : List ℕ → List (List ℕ) → Bool
has_key key [] = false
has_key key (k ∷ ks) = bytes_eq key k || has_key key ks

-- whether keys differ
abbrev pub are_distinct : List (List ℕ) → Bool
are_distinct [] = true
are_distinct (k ∷ ks) = not (has_key k ks) && are_distinct ks

module _ {S : Type 0} where
  -- each key of an object is lawful
  abbrev pub lawful_in : {K : Type 0} → Fields S K → Type 0
  lawful_in no_more = ⊤
  lawful_in (field f part fs) = IsLawfulField f × lawful_in fs

  -- making a value of its own parts gives the value
  abbrev pub made_in : {K : Type 0} → Fields S K → K → S → Type 0
  made_in no_more made s = made ≡ s
  made_in (field f part fs) make s = made_in fs (make (part s)) s

-- an object whose keys differ, and are lawful, and whose values are made of their parts
pub record IsLawfulObject {S : Type 0} (o : Object S) : Type 0 where
  pub keys : lawful_in o.fields
  pub differ : are_distinct (keys_in o.fields) ≡ true
  pub made : (s : S) → made_in o.fields o.make s

-- ---- keys that differ

apart : (q k : List ℕ) → bytes_eq q k ≡ false → q ≡ k → ⊥
apart q k h e = cc (h, (bytes_decides q k).1 e)

first-false : (a b : Bool) → (a || b) ≡ false → a ≡ false
first-false true b h = h
first-false false b h = refl

second-false : (a b : Bool) → (a || b) ≡ false → b ≡ false
second-false true b h = cc h
second-false false b h = h

-- a key of a list differs from one that the list does not have
differs : (q k : List ℕ) (ks : List (List ℕ)) → has_key q ks ≡ true → has_key k ks ≡ false → q ≡ k → ⊥
differs q k ks h new e = cc (subst (λ (x : List ℕ). has_key x ks ≡ true) e h, new)

-- ---- members

-- what is found at the key of a value that was added
put-found : (k : List ℕ) (o : Option Data) (ms : Members) → get_member k ms ≡ None → get_member k (put_some k o ms) ≡ o
put-found k None ms h = h
put-found k (Some d) ms h = get_member-put k d ms

-- and at another key
put-other : (q k : List ℕ) (o : Option Data) (ms : Members) → (q ≡ k → ⊥) → get_member q (put_some k o ms) ≡ get_member q ms
put-other q k None ms h = refl
put-other q k (Some d) ms h = get_member-put_other q k d ms h

-- members that have none of some keys
abbrev AreAbsent : List (List ℕ) → Members → Type 0
AreAbsent ks ms = (q : List ℕ) → has_key q ks ≡ true → get_member q ms ≡ None

module _ {S : Type 0} where
  members-other : {K : Type 0} (fs : Fields S K) (s : S) (q : List ℕ) (ms : Members) → has_key q (keys_in fs) ≡ false
      → get_member q (members_in fs s ms) ≡ get_member q ms
  members-other no_more s q ms h = refl
  members-other (field f part fs) s q ms h =
      members-other fs s q (put_some f.key (f.tree (part s)) ms) (second-false _ _ h)
      ∙ put-other q f.key (f.tree (part s)) ms (apart q f.key (first-false _ _ h))

  -- members with an object's values at its keys
  abbrev pub held_in : {K : Type 0} → Fields S K → S → Members → Type 0
  held_in no_more s ms = ⊤
  held_in (field f part fs) s ms = (get_member f.key ms ≡ f.tree (part s)) × held_in fs s ms

  members-held : {K : Type 0} (fs : Fields S K) (s : S) (ms : Members) → are_distinct (keys_in fs) ≡ true → AreAbsent (keys_in fs) ms
      → held_in fs s (members_in fs s ms)
  members-held no_more s ms d none = tt
  members-held (field f part fs) s ms d none =
      let more = put_some f.key (f.tree (part s)) ms in
      let new = not-true _ (first_so _ _ d) in
      let absent : AreAbsent (keys_in fs) more =
      (λ q h. put-other q f.key (f.tree (part s)) ms (differs q f.key (keys_in fs) h new) ∙ none q (later q f.key (keys_in fs) h)) in (
        members-other fs s f.key more new ∙ put-found f.key (f.tree (part s)) ms (none f.key (here f.key (keys_in fs))),
        members-held fs s more (second_so _ _ d) absent,
      )
    where
      later : (q k : List ℕ) (ks : List (List ℕ)) → has_key q ks ≡ true → has_key q (k ∷ ks) ≡ true
      later q k ks h = or-right (bytes_eq q k) _ h
        where
          or-right : (a b : Bool) → b ≡ true → (a || b) ≡ true
          or-right true b e = refl
          or-right false b e = e

      here : (k : List ℕ) (ks : List (List ℕ)) → has_key k (k ∷ ks) ≡ true
      here k ks = rw ((bytes_decides k k).1 refl) refl

  next : {A : Type 0} (o : Option A) (x : A) (rest : A → Option S) (y : S) → o ≡ Some x → rest x ≡ Some y → (o >>= rest) ≡ Some y
  next o x rest y is then = rw is then

  held-again : {K : Type 0} (fs : Fields S K) (make : K) (s : S) (ms : Members) → lawful_in fs → held_in fs s ms → made_in fs make s → again_in fs s
      → read_in fs make ms ≡ Some s
  held-again no_more make s ms laws held made again = ap Some made
  held-again (field f part fs) make s ms laws held made again =
      next (f.read (get_member f.key ms)) (part s) (λ x. read_in fs (make x) ms) s (ap f.read held.0 ∙ laws.0 (part s) again.0)
      (held-again fs (make (part s)) s ms laws.1 held.1 made again.1)

  -- what was read is made of what was read at each key
  abbrev pub parts_in : {K : Type 0} → Fields S K → K → Members → S → Type 0
  parts_in no_more made ms s = made ≡ s
  parts_in (field {A = A} f part fs) make ms s = (x : A) × (f.read (get_member f.key ms) ≡ Some x) × parts_in fs (make x) ms s

  some-same : (a b : S) → Some a ≡ Some b → a ≡ b
  some-same a b h = cc h

  first-read : {A : Type 0} (o : Option A) (rest : A → Option S) (y : S) → (o >>= rest) ≡ Some y → (x : A) × (o ≡ Some x) × (rest x ≡ Some y)
  first-read None rest y h = cc h
  first-read (Some x) rest y h = (x, refl, h)

  pub parts-read : {K : Type 0} (fs : Fields S K) (make : K) (ms : Members) (s : S) → read_in fs make ms ≡ Some s → parts_in fs make ms s
  parts-read no_more made ms s h = some-same made s h
  parts-read (field f part fs) make ms s h =
      let p = first-read (f.read (get_member f.key ms)) (λ x. read_in fs (make x) ms) s h in
      (p.0, p.1, parts-read fs (make p.0) ms s p.2)

-- each key of an object's own tree holds its part
pub object-held : {S : Type 0} (o : Object S) (s : S) → are_distinct (keys_in o.fields) ≡ true → held_in o.fields s (members_of o s)
object-held o s d = members-held o.fields s no_members d (λ q h. refl)

-- an object is read from its own tree
pub object-again : {S : Type 0} (o : Object S) → IsLawfulObject o → IsLawful (object_codec o)
object-again o laws = record {
  again = λ s h. held-again o.fields o.make s (members_of o s) laws.keys (object-held o s laws.differ) (laws.made s) h;
  there = λ s. refl;
}

-- ---- values that may be missing

module _ {A : Type 0} {c : Codec A} where
  pub optional-again : IsLawful c → (o : Option A) → IfThere c.IsAgain o → or_null c.read (optional_tree c.tree o) ≡ Some o
  optional-again l None h = refl
  optional-again l (Some x) h = rw (l.there x, l.again x h) refl

  -- where the key is left out
  pub left_out-again : IsLawful c → (o : Option A) → IfThere c.IsAgain o → value_or None (or_null c.read) (option_map c.tree o) ≡ Some o
  left_out-again l None h = refl
  left_out-again l (Some x) h = rw (l.there x, l.again x h) refl

-- ---- lists and texts

-- the items of a list of trees
pub list_of-items : (ds : List Data) → list_of (items_of ds) ≡ ds
list_of-items [] = refl
list_of-items (d ∷ ds) = ap (λ rest. d ∷ rest) (list_of-items ds)

module _ {A : Type 0} {c : Codec A} where
  all-again : IsLawful c → (xs : List A) → All c.IsAgain xs → read_all c.read (map c.tree xs) ≡ Some xs
  unfolding read_all
  all-again l [] h = refl
  all-again l (x ∷ xs) h = rw (l.again x (All-head c.IsAgain x xs h), all-again l xs (All-tail c.IsAgain x xs h)) refl

  pub list-again : IsLawful c → IsLawful (list_codec c)
  list-again l = record { again = λ xs h. rw (list_of-items (map c.tree xs)) (all-again l xs h); there = λ xs. refl }

pub text-again : {A : Type 0} (name : A → List ℕ) (parsed : List ℕ → Option A) → IsLawful (text_codec name parsed)
text-again name parsed = record { again = λ x h. h; there = λ x. refl }

pub word-again : {A : Type 0} (name : A → List ℕ) (parsed : List ℕ → A) → IsLawful (word_codec name parsed)
word-again name parsed = record { again = λ x h. ap Some h; there = λ x. refl }

pub any-text-again : IsLawful any_text
any-text-again = record { again = λ t h. refl; there = λ t. refl }
