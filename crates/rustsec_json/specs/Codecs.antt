-- Codecs: the JSON tree of a value, the reader of a tree, and the condition under which the reader gives the value for
-- its own tree. An object's codec has a row for each key.
use Rattle.std.specs.Prelude.{◌≡◌, ℕ, List, [], ◌∷◌, All, Option, Some, None, ⊤, option_map}
use Rattle.serde_json.specs.Data.{Data, Members, no_members, object, put, string}
use Rattle.serde_json.specs.Find.{as_object, get_member}
use Rattle.rustsec_values.specs.Reading.{◌>>=◌, value_or}
use Rattle.rustsec_json.specs.Fields.{every, or_null, text}
use Rattle.rustsec_json.specs.Trees.{list_tree, optional_tree}

-- a property of a value, if the value is present
abbrev pub IfThere : {A : Type 0} → (A → Type 0) → Option A → Type 0
IfThere P None = ⊤
IfThere P (Some x) = P x

-- the tree of a value, what is read from a tree, and when a value is read from its own tree
pub record Codec (A : Type 0) : Type 1 where
  pub tree : A → Data
  pub read : Data → Option A
  pub IsAgain : A → Type 0

-- a codec with another condition
abbrev pub again_where : {A : Type 0} → (A → Type 0) → Codec A → Codec A
again_where P c = record c { IsAgain = P }

-- a list of values: an array of their trees
abbrev pub list_codec : {A : Type 0} → Codec A → Codec (List A)
list_codec c = record { tree = list_tree c.tree; read = every c.read; IsAgain = All c.IsAgain }

-- a value that prints a text, and is parsed from it
abbrev pub text_codec : {A : Type 0} → (A → List ℕ) → (List ℕ → Option A) → Codec A
text_codec name parsed = record { tree = λ x. string (name x); read = text parsed; IsAgain = λ x. parsed (name x) ≡ Some x }

-- likewise where each text is parsed
abbrev pub word_codec : {A : Type 0} → (A → List ℕ) → (List ℕ → A) → Codec A
word_codec name parsed = record { tree = λ x. string (name x); read = text (λ t. Some (parsed t)); IsAgain = λ x. parsed (name x) ≡ x }

-- any text
abbrev pub any_text : Codec (List ℕ)
any_text = record { tree = λ t. string t; read = text (λ t. Some t); IsAgain = λ t. ⊤ }

-- ---- the keys of an object

-- a key: the tree at it, if any, and what is read there
pub record Field (A : Type 0) : Type 1 where
  pub key : List ℕ
  pub tree : A → Option Data
  pub read : Option Data → Option A
  pub IsAgain : A → Type 0

-- a key that has to be there
abbrev pub required : {A : Type 0} → List ℕ → Codec A → Field A
required key c = record { key = key; tree = λ x. Some (c.tree x); read = λ o. o >>= c.read; IsAgain = c.IsAgain }

-- a key that has a default; it is always written
abbrev pub defaulted : {A : Type 0} → List ℕ → A → Codec A → Field A
defaulted key default c = record { key = key; tree = λ x. Some (c.tree x); read = value_or default c.read; IsAgain = c.IsAgain }

-- a value that may be missing: null if it is
abbrev pub optional : {A : Type 0} → List ℕ → Codec A → Field (Option A)
optional key c = record { key = key; tree = λ x. Some (optional_tree c.tree x); read = value_or None (or_null c.read); IsAgain = IfThere c.IsAgain }

-- a value that may be missing: its key is left out if it is
abbrev pub left_out : {A : Type 0} → List ℕ → Codec A → Field (Option A)
left_out key c = record { key = key; tree = option_map c.tree; read = value_or None (or_null c.read); IsAgain = IfThere c.IsAgain }

-- the keys of the objects of a type `S`, each with the part of `S` at it; `K` takes these parts and makes an `S`
pub data Fields (S : Type 0) : Type 0 → Type 1 where
  no_more : Fields S S
  field : {A K : Type 0} → Field A → (S → A) → Fields S K → Fields S (A → K)

-- objects: their keys, and how their parts make a value
pub record Object (S : Type 0) : Type 1 where
  pub Make : Type 0
  pub fields : Fields S Make
  pub make : Make

-- ---- rows

-- a key and its value
abbrev pub Row : Type 0
Row = List ℕ × Data

-- members with these rows added; `put` keeps the keys in the order of their bytes
abbrev pub with_rows : Members → List Row → Members
with_rows ms [] = ms
with_rows ms (row ∷ rows) = with_rows (put row.0 row.1 ms) rows

-- the object with these members
abbrev pub object_of : List Row → Data
object_of rows = object (with_rows no_members rows)

-- members with a value added, if it is present
abbrev pub put_some : List ℕ → Option Data → Members → Members
put_some key None ms = ms
put_some key (Some d) ms = put key d ms

-- ---- objects

module _ {S : Type 0} where
  -- the keys
  abbrev pub keys_in : {K : Type 0} → Fields S K → List (List ℕ)
  keys_in no_more = []
  keys_in (field f part fs) = f.key ∷ keys_in fs

  -- members with those of a value added
  abbrev pub members_in : {K : Type 0} → Fields S K → S → Members → Members
  members_in no_more s ms = ms
  members_in (field f part fs) s ms = members_in fs s (put_some f.key (f.tree (part s)) ms)

  -- the value that is made of what is read at each key
  abbrev pub read_in : {K : Type 0} → Fields S K → K → Members → Option S
  read_in no_more s ms = Some s
  read_in (field f part fs) make ms = f.read (get_member f.key ms) >>= λ x. read_in fs (make x) ms

  -- whether each part is read again
  abbrev pub again_in : {K : Type 0} → Fields S K → S → Type 0
  again_in no_more s = ⊤
  again_in (field f part fs) s = f.IsAgain (part s) × again_in fs s

-- objects of these keys
abbrev pub objects_of : {S K : Type 0} → Fields S K → K → Object S
objects_of {S} {K} fields make = record { Make = K; fields = fields; make = make }

-- the members of a value's object
abbrev pub members_of : {S : Type 0} → Object S → S → Members
members_of o s = members_in o.fields s no_members

-- the codec of objects of these keys
abbrev pub object_codec : {S : Type 0} → Object S → Codec S
object_codec o = record {
  tree = λ s. object (members_of o s);
  read = λ d. as_object d >>= read_in o.fields o.make;
  IsAgain = again_in o.fields;
}
