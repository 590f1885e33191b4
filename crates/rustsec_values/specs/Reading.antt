-- Readers that may refuse: their result for a value, and for each value of a list.
use Rattle.std.specs.Prelude.{Bool, if◌then◌else◌, List, [], ◌∷◌, Option, Some, None, Result, Ok, Err, option_and_then}

infixl 10 ◌>>=◌
-- the result of a second reader for the result of a first one
abbrev pub ◌>>=◌ : {A B : Type 0} → Option A → (A → Option B) → Option B
o >>= f = option_and_then f o

-- the value of a result, none if it is an error
abbrev pub value_of : {A E : Type 0} → Result A E → Option A
value_of (Ok x) = Some x
value_of (Err e) = None

-- a value before a list, if both were read
abbrev pub before : {B : Type 0} → Option B → Option (List B) → Option (List B)
before None rest = None
before (Some y) None = None
before (Some y) (Some ys) = Some (y ∷ ys)

-- the results of a reader for each value of a list, in order, if it refuses none
unfoldable pub read_all : {A B : Type 0} → (A → Option B) → List A → Option (List B)
read_all f [] = Some []
read_all f (x ∷ xs) = before (f x) (read_all f xs)

-- the result of a reader for a value that may be missing
abbrev pub read_optional : {A B : Type 0} → (A → Option B) → Option A → Option (Option B)
read_optional f None = Some None
read_optional f (Some x) = f x >>= λ y. Some (Some y)

-- the result of a reader for a value that may be missing, or a default
abbrev pub value_or : {A B : Type 0} → B → (A → Option B) → Option A → Option B
value_or default f None = Some default
value_or default f (Some x) = f x

-- a value, if a test holds
abbrev pub only_if : {A : Type 0} → Bool → Option A → Option A
only_if test o = if test then o else None
