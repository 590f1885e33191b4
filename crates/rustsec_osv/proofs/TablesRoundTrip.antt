-- The values of the tables of an advisory's document are parsed from their texts.
use Rattle.std.proofs.Common.{◌≡◌, ℕ, List, [], ◌∷◌, All, map, Option, Some, None, refl, ap, sym, subst}
use Rattle.std.proofs.lemmas.List.Elements.{All-cons, All-head, All-nil, All-tail}
use Rattle.std.proofs.lemmas.Map.Views.{All-map-IsPermutation}
use Rattle.std.proofs.lemmas.Option.{same_Some}
use Rattle.std.specs.Map.{keys_of}
use Rattle.toml.specs.Data.{Data, Members, as_array, as_str}
use Rattle.semver.specs.Parse.{Held}
use Rattle.rustsec_toml.specs.Fields.{every, list_of, text}
use Rattle.rustsec_values.specs.Reading.{◌>>=◌, before, read_all, read_optional, value_or}
use Rattle.rustsec_texts.specs.Paths.{path_of}
use Rattle.rustsec_advisory.specs.Affected.{AreFunctions, AreFunctionsAt, Function, function_of, members_of}
use Rattle.rustsec_advisory.specs.Requirements.{requirements_of}
use Rattle.rustsec_json.specs.Codecs.{IfThere}
use Rattle.rustsec_json.specs.TextCodecs.{path_codec}
use Rattle.rustsec_json.proofs.TextsRoundTrip.{path-again}

-- the result of a second step
pub through : {A B : Type 0} (o : Option A) (f : A → Option B) (P : B → Type 0) → ((a : A) (b : B) → f a ≡ Some b → P b) → (y : B) → (o >>= f) ≡ Some y → P y
through None f P each y e = cc e
through (Some a) f P each y e = each a y e

module _ {D A : Type 0} (f : D → Option A) (P : A → Type 0) (each : (d : D) (y : A) → f d ≡ Some y → P y) where
  cons-read : (o : Option A) (rest : Option (List A)) (ys : List A) → ((y : A) → o ≡ Some y → P y) → ((zs : List A) → rest ≡ Some zs → All P zs) → before o rest ≡ Some ys → All P ys
  cons-read None rest ys h k e = cc e
  cons-read (Some y) None ys h k e = cc e
  cons-read (Some y) (Some zs) ys h k e = subst (All P) (same_Some (y ∷ zs) ys e) (All-cons P y zs (h y refl) (k zs refl))

  pub all-read : (ds : List D) (ys : List A) → read_all f ds ≡ Some ys → All P ys
  unfolding read_all
  all-read [] ys e = subst (All P) (same_Some [] ys e) (All-nil P)
  all-read (d ∷ ds) ys e = cons-read (f d) (read_all f ds) ys (each d) (all-read ds) e

module _ {A : Type 0} (f : Data → Option A) (P : A → Type 0) (each : (d : Data) (y : A) → f d ≡ Some y → P y) where
  every-read : (d : Data) (ys : List A) → every f d ≡ Some ys → All P ys
  every-read d ys e = through (as_array d) (λ ds. read_all f (list_of ds)) (All P) (λ ds zs w. all-read f P each (list_of ds) zs w) ys e

  pub list-read : (o : Option Data) (ys : List A) → value_or [] (every f) o ≡ Some ys → All P ys
  list-read None ys e = subst (All P) (same_Some [] ys e) (All-nil P)
  list-read (Some d) ys e = every-read d ys e

  maybe-read : (o : Option A) (r : Option A) → ((y : A) → o ≡ Some y → P y) → (o >>= λ y. Some (Some y)) ≡ Some r → IfThere P r
  maybe-read None r h e = cc e
  maybe-read (Some y) r h e = subst (IfThere P) (same_Some (Some y) r e) (h y refl)

  pub optional-read : (o : Option Data) (r : Option A) → read_optional f o ≡ Some r → IfThere P r
  optional-read None r e = subst (IfThere P) (same_Some None r e) tt
  optional-read (Some d) r e = maybe-read (f d) r (each d) e

pub text-read : {A : Type 0} (f : List ℕ → Option A) (P : A → Type 0) → ((t : List ℕ) (y : A) → f t ≡ Some y → P y) → (d : Data) (y : A) → text f d ≡ Some y → P y
text-read f P each d y e = through (as_str d) f P each y e

-- the paths of functions
pair-path : (a : Option (List (List ℕ))) (b : Option (List (List Held))) (y : Function) → (a >>= λ path. b >>= λ reqs. Some (path, reqs)) ≡ Some y → a ≡ Some y.0
pair-path None b y e = cc e
pair-path (Some a) None y e = cc e
pair-path (Some a) (Some b) y e = ap (λ (x : Function). Some x.0) (same_Some (a, b) y e)

function-path : (m : List ℕ × Data) (y : Function) → function_of m ≡ Some y → path_codec.IsAgain y.0
function-path m y e = path-again m.0 y.0 (pair-path (path_of m.0) (requirements_of m.1) y e)

paths-of : (fs : List Function) → All (λ (x : Function). path_codec.IsAgain x.0) fs → All path_codec.IsAgain (map (λ (x : Function). x.0) fs)
paths-of [] h = All-nil path_codec.IsAgain
paths-of (x ∷ fs) h = All-cons path_codec.IsAgain x.0 (map (λ (y : Function). y.0) fs) (All-head (λ (y : Function). path_codec.IsAgain y.0) x fs h) (paths-of fs (All-tail (λ (y : Function). path_codec.IsAgain y.0) x fs h))

table-paths : (t : Members) (fs : List Function) → AreFunctions t fs → All path_codec.IsAgain (keys_of fs)
table-paths t fs h =
    All-map-IsPermutation (λ (x : Function). x.0) path_codec.IsAgain h.read fs h.same
    (paths-of h.read (all-read function_of (λ (x : Function). path_codec.IsAgain x.0) function-path (members_of t) h.read h.is_read))

pub functions-read : (o : Option Data) (fs : List Function) → AreFunctionsAt o fs → All path_codec.IsAgain (keys_of fs)
functions-read None fs h = subst (λ (x : List Function). All path_codec.IsAgain (keys_of x)) (sym h) (All-nil path_codec.IsAgain)
functions-read (Some d) fs h = table-paths h.0 fs h.1.1
