-- The functions of a table, read entry by entry into a sorted map.
use Rattle.std.proofs.Common.{◌≡◌, ◌≢◌, ◌∙◌, ℕ, List, [], ◌∷◌, ◌++◌, Option, Some, None, map, Equal, Less, string_bytes, refl, sym, ap}
use Rattle.std.specs.BTreeMap.{insert_entry}
use Rattle.std.specs.Cmp.{tied_itself}
use Rattle.std.specs.Cmp.Lexicographic.{bytes_decides, nat_list_cmp_total, pointwise_decides, slice_cmp}
use Rattle.std.specs.List.{AllByRecursion}
use Rattle.std.specs.List.Sorted.{IsPermutation, IsStrictlySortedBy}
use Rattle.std.specs.Map.{keys_of}
use Rattle.std.specs.Ordering.{is_eq, nat_cmp}
use Rattle.std.specs.String.{string_cmp}
use Rattle.std.proofs.lemmas.List.{append-nil, append_assoc, map-append}
use Rattle.std.proofs.lemmas.List.Sorted.{IsPermutation-append_comm, IsPermutation-cons, IsPermutation-refl, IsPermutation-trans}
use Rattle.toml.specs.View.{members_view, view}
use Rattle.semver.specs.Parse.{Held}
use Rattle.rustsec_values.specs.Reading.{before, read_all}
use Rattle.rustsec_values.proofs.Readers.{read_all-nil, read_all-push}
use Rattle.rustsec_texts.specs.Paths.{path_of, path_order, path_text, path_ties, path_total}
use Rattle.rustsec_texts.proofs.Colons.{path_text-path_of}
use Rattle.rustsec_advisory.specs.Affected.{AreFunctions, Function, function_of}
use Rattle.rustsec_advisory.specs.Requirements.{requirements_of}
use Rattle.rustsec_advisory.proofs.Insertion.{all-weaker, insertion-permutes, insertion-sorted, keys-with}
use Rattle.rustsec_advisory.proofs.Members.{Entry, members_of-view, seen}

-- paths that tie are equal
tied-same : (p q : List (List ℕ)) → path_order p q ≡ Equal → p ≡ q
tied-same p q h = (pointwise_decides bytes_decides p q).0 (path_ties p q ∙ ap is_eq h)

-- no key is the text of a path
abbrev pub IsApart : List (List ℕ) → List Entry → Type 0
IsApart p es = AllByRecursion (λ k. string_bytes k ≢ path_text p) (keys_of es)

-- so far: the entries that were read are those of the map; the keys of the others rise, and none is the text of a
-- path in the map
pub record Walked (all left : List Entry) (fs : List Function) : Type 0 where
  pub done : List Entry
  pub split : all ≡ done ++ left
  pub read : List Function
  pub is_read : read_all function_of (map seen done) ≡ Some read
  pub same : IsPermutation read fs
  pub ordered : IsStrictlySortedBy path_order (keys_of fs)
  pub apart : AllByRecursion (λ p. IsApart p left) (keys_of fs)
  pub rising : IsStrictlySortedBy string_cmp (keys_of left)

pub walked-start : (all : List Entry) → IsStrictlySortedBy string_cmp (keys_of all) → Walked all all []
unfolding IsStrictlySortedBy
walked-start all rising = record {
  done = [];
  split = refl;
  read = [];
  is_read = read_all-nil function_of;
  same = IsPermutation-refl [];
  ordered = tt;
  apart = tt;
  rising = rising;
}

function-read : (e : Entry) (p : List (List ℕ)) (reqs : List (List Held)) → path_of (string_bytes e.0) ≡ Some p → requirements_of (view e.1) ≡ Some reqs
    → function_of (seen e) ≡ Some (p, reqs)
function-read e p reqs a b = rw (a, b) refl

unequal : (a b : List ℕ) → slice_cmp nat_cmp a b ≡ Less → b ≢ a
unequal a b less same = cc (sym less ∙ ap (slice_cmp nat_cmp a) same ∙ tied_itself nat_list_cmp_total a)

pub walked-more : (all : List Entry) (e : Entry) (rest : List Entry) (fs : List Function) (p : List (List ℕ)) (reqs : List (List Held))
    → Walked all (e ∷ rest) fs → path_of (string_bytes e.0) ≡ Some p → requirements_of (view e.1) ≡ Some reqs
    → Walked all rest (insert_entry path_order fs p reqs)
unfolding IsStrictlySortedBy
walked-more all e rest fs p reqs w a b =
    let text : path_text p ≡ string_bytes e.0 = path_text-path_of (string_bytes e.0) p a in
    let new : AllByRecursion (λ q. path_order p q ≢ Equal) (keys_of fs) =
    all-weaker _ _ (keys_of fs) (λ q h tied. h.0 (sym text ∙ ap path_text (tied-same p q tied))) w.apart in
    let f : Function = (p, reqs) in
    record {
      done = w.done ++ e ∷ [];
      split = w.split ∙ sym (append_assoc w.done (e ∷ []) rest);
      read = w.read ++ f ∷ [];
      is_read = rw (map-append seen w.done (e ∷ [])) (read_all-push function_of (map seen w.done) w.read (seen e) f w.is_read (function-read e p reqs a b));
      same = IsPermutation-trans _ _ _ (IsPermutation-append_comm w.read (f ∷ []))
          (IsPermutation-trans _ _ _ (IsPermutation-cons f w.read fs w.same) (insertion-permutes path_order fs p reqs new));
      ordered = insertion-sorted path_order path_total fs p reqs w.ordered;
      apart = keys-with path_order (λ q. IsApart q rest) fs p reqs (all-weaker _ _ (keys_of fs) (λ q h. h.1) w.apart)
          (all-weaker _ _ (keys_of rest) (λ k less same. unequal (string_bytes e.0) (string_bytes k) less (same ∙ text)) w.rising.0);
      rising = w.rising.1;
    }

before-none : {B : Type 0} (h : Option B) (r : Option (List B)) → r ≡ None → before h r ≡ None
before-none None r e = refl
before-none (Some a) r e = rw e refl

refused-at : {A B : Type 0} (f : A → Option B) (xs : List A) (y : A) (ys : List A) → f y ≡ None → read_all f (xs ++ y ∷ ys) ≡ None
unfolding read_all
refused-at f [] y ys h = rw h refl
refused-at f (x ∷ xs) y ys h = before-none (f x) _ (refused-at f xs y ys h)

-- an entry that does not give a function
pub walked-stop : (all : List Entry) (e : Entry) (rest : List Entry) (fs : List Function) → Walked all (e ∷ rest) fs → function_of (seen e) ≡ None
    → (gs : List Function) → ¬ AreFunctions (members_view all) gs
walked-stop all e rest fs w none gs h =
    let split = members_of-view all ∙ ap (map seen) w.split ∙ map-append seen w.done (e ∷ rest) in
    let never : read_all function_of (map seen w.done ++ seen e ∷ map seen rest) ≡ None = refused-at function_of (map seen w.done) (seen e) (map seen rest) none in
    cc (sym h.is_read ∙ ap (read_all function_of) split ∙ never)

pub no-path : (e : Entry) → path_of (string_bytes e.0) ≡ None → function_of (seen e) ≡ None
no-path e h = rw h refl

pub no-requirements : (e : Entry) (p : List (List ℕ)) → path_of (string_bytes e.0) ≡ Some p → requirements_of (view e.1) ≡ None → function_of (seen e) ≡ None
no-requirements e p a h = rw (a, h) refl

pub walked-end : (all : List Entry) (fs : List Function) → Walked all [] fs → AreFunctions (members_view all) fs
walked-end all fs w = record {
  read = w.read;
  is_read = rw (members_of-view all, w.split, append-nil w.done) w.is_read;
  same = w.same;
  ordered = w.ordered;
}
