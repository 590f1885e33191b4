-- The places of a graph are places of packages.
use Rattle.std.proofs.Common.{◌≡◌, ◌∙◌, ◌+◌, ◌<◌, ◌≤◌, ◌++◌, inl, inr, Bool, true, false, ℕ, suc, List, [], ◌∷◌, Option, Some, None, length, map, arith, refl, sym, ap, subst}
use Rattle.std.specs.Prelude.{filter_map, option_and_then}
use Rattle.std.specs.List.{All, cons_option, filter, list_all, range_with_len}
use Rattle.std.specs.Option.{option_or}
use Rattle.std.proofs.lemmas.Bool.{cases_lt}
use Rattle.std.proofs.lemmas.List.{get_or_past}
use Rattle.std.proofs.lemmas.List.Elements.{All-append, All-cons, All-filter, All-from_get_or, All-head, All-nil}
use Rattle.std.proofs.lemmas.List.FromFn.{get_or-map-range_with_len, get_or-range_with_len, length-map-range_with_len, length-range_with_len, map-range_with_len_more}
use Rattle.std.proofs.lemmas.List.Kept.{AllPairs-filter}
use Rattle.toml.specs.Data.{Data, Items, Members, as_array, as_str}
use Rattle.rustsec_values.specs.Reading.{◌>>=◌, only_if}
use Rattle.rustsec_toml.specs.Fields.{list_of}
use Rattle.rustsec_lock.specs.Package.{PackageValue}
use Rattle.rustsec_graph.specs.Candidates.{Candidate, candidate_of, candidates, is_old}
use Rattle.rustsec_graph.specs.Edges.{as_list, dependencies_at, edges_of, replace_at, replaced, targets_at, targets_of, targets_of_array, unresolved, unresolved_at}
use Rattle.rustsec_graph.specs.Entries.{fits_at, fitting, if_same_release, is_local_at, is_same_release, named, named_by, only, only_local, places}
use Rattle.rustsec_graph.specs.Graph.{IsClosed, roots_of}
use Rattle.rustsec_graph.specs.Paths.{successors}
use Rattle.rustsec_graph.specs.Search.{Rise}

-- one more place
pub place-more : {A : Type 0} (f : ℕ → A) (i : ℕ) (old new : List A) (x : A) → old ≡ map f (range_with_len 0 i) → new ≡ old ++ x ∷ [] → x ≡ f i
    → new ≡ map f (range_with_len 0 (i + 1))
place-more f i old new x before is e =
    is ∙ ap (λ xs. xs ++ x ∷ []) before ∙ ap (λ y. map f (range_with_len 0 i) ++ y ∷ []) e ∙ sym (map-range_with_len_more f 0 i i (omega arith))

all-places : (n : ℕ) → All (λ place. place < n) (places n)
all-places n = All-from_get_or (λ place. place < n) (places n) 0
    (λ i l. let m : i < n = omega (arith, length-range_with_len 0 n) in let e = get_or-range_with_len 0 n i 0 m in omega (arith, e))

module _ (P : ℕ → Type 0) where
  all-only : (xs : List ℕ) (t : ℕ) → All P xs → only xs ≡ Some t → P t
  all-only [] t h e = cc e
  all-only (x ∷ []) t h e = let same : x ≡ t = cc e in subst P same (All-head P x [] h)
  all-only (x ∷ (y ∷ ys)) t h e = cc e

  all-cons : (o : Option ℕ) (xs : List ℕ) → ((t : ℕ) → o ≡ Some t → P t) → All P xs → All P (cons_option o xs)
  all-cons None xs each h = h
  all-cons (Some t) xs each h = All-cons P t xs (each t refl) h

  all-filter_map : (f : Data → Option ℕ) (ds : List Data) → ((d : Data) (t : ℕ) → f d ≡ Some t → P t) → All P (filter_map f ds)
  all-filter_map f [] each = All-nil P
  all-filter_map f (d ∷ ds) each = all-cons (f d) (filter_map f ds) (each d) (all-filter_map f ds each)

module _ (cs : List Candidate) where
  abbrev Within : ℕ → Type 0
  Within t = t < length cs

  fitting-within : (entry : List ℕ) → All Within (fitting cs entry)
  fitting-within entry = All-filter (fits_at cs entry) Within (places (length cs)) (all-places (length cs))

  same-within : (xs : List ℕ) (o : Option ℕ) (t : ℕ) → ((x : ℕ) → o ≡ Some x → Within x) → o >>= if_same_release cs xs ≡ Some t → Within t
  same-within xs None t each e = cc e
  same-within xs (Some x) t each e = one (list_all (λ y. is_same_release cs y x) xs) e
    where
      one : (b : Bool) → only_if b (Some x) ≡ Some t → Within t
      one true h = each t h
      one false h = cc h

  local-within : (xs : List ℕ) (t : ℕ) → All Within xs → only_local cs xs ≡ Some t → Within t
  local-within xs t h =
      same-within xs (only (filter (is_local_at cs) xs)) t (λ x. all-only Within (filter (is_local_at cs) xs) x (All-filter (is_local_at cs) Within xs h))

  or-within : (a b : Option ℕ) (t : ℕ) → ((x : ℕ) → a ≡ Some x → Within x) → ((x : ℕ) → b ≡ Some x → Within x) → option_or a b ≡ Some t → Within t
  or-within None b t first second e = second t e
  or-within (Some x) b t first second e = first t e

  named-within : (entry : Option (List ℕ)) (t : ℕ) → option_and_then (named cs) entry ≡ Some t → Within t
  named-within None t e = cc e
  named-within (Some entry) t e =
      or-within (only (fitting cs entry)) (only_local cs (fitting cs entry)) t (λ x. all-only Within (fitting cs entry) x (fitting-within entry))
      (λ x. local-within (fitting cs entry) x (fitting-within entry)) e

  array-within : (o : Option Items) → All Within (targets_of_array cs o)
  array-within None = All-nil Within
  array-within (Some ds) = all-filter_map Within (named_by cs) (list_of ds) (λ d t e. named-within (as_str d) t e)

  targets-within : (o : Option Data) → All Within (targets_of cs o)
  targets-within None = All-nil Within
  targets-within (Some d) = array-within (as_array d)

  list-within : (o : Option ℕ) → ((x : ℕ) → o ≡ Some x → Within x) → All Within (as_list o)
  list-within None each = All-nil Within
  list-within (Some x) each = All-cons Within x [] (each x refl) (All-nil Within)

  replaced-within : (o : Option Data) → All Within (replaced cs o)
  replaced-within None = All-nil Within
  replaced-within (Some d) = list-within (named_by cs d) (λ t e. named-within (as_str d) t e)

  row-inside : (ms : Members) (place : ℕ) → All Within (targets_at cs ms place)
  row-inside ms place =
      All-append Within (targets_of cs (dependencies_at ms place)) (replaced cs (replace_at ms place)) (targets-within (dependencies_at ms place)) (replaced-within (replace_at ms place))

length-map : (old : Bool) (packages : List PackageValue) → length (map (candidate_of old) packages) ≡ length packages
length-map old [] = refl
length-map old (p ∷ ps) = ap (λ n. suc n) (length-map old ps)

module _ (ms : Members) (packages : List PackageValue) where
  abbrev row : ℕ → List ℕ
  row place = targets_at (candidates ms packages) ms place

  all-long : length (candidates ms packages) ≡ length packages
  all-long = length-map (is_old ms) packages

  as-long : length (edges_of ms packages) ≡ length packages
  as-long = length-map-range_with_len row 0 (length packages)

  row-within : (place : ℕ) → All (λ t. t < length (edges_of ms packages)) (row place)
  row-within place = subst (λ n. All (λ t. t < n) (row place)) (all-long ∙ sym as-long) (row-inside (candidates ms packages) ms place)

  successors-within : (place : ℕ) → All (λ t. t < length (edges_of ms packages)) (successors (edges_of ms packages) place)
  successors-within place = elim (cases_lt place (length packages)) [
    | inl l ↦ subst (All (λ t. t < length (edges_of ms packages))) (sym (get_or-map-range_with_len row 0 (length packages) place place [] l (omega arith))) (row-within place)
    | inr past ↦ (
        let m : length (edges_of ms packages) ≤ place = omega (arith, as-long) in
        subst (All (λ t. t < length (edges_of ms packages))) (sym (get_or_past (edges_of ms packages) place [] m)) (All-nil (λ t. t < length (edges_of ms packages)))
        )
  ]

  pub closed : IsClosed (edges_of ms packages) (roots_of packages (edges_of ms packages))
  closed = record {
    all_targets = successors-within;
    all_roots = All-filter _ (λ root. root < length (edges_of ms packages)) (places (length (edges_of ms packages))) (all-places (length (edges_of ms packages)));
  }

  pub edges-are : (cs : List Candidate) (edges : List (List ℕ)) → cs ≡ candidates ms packages
      → edges ≡ map (targets_at cs ms) (range_with_len 0 (length cs)) → edges ≡ edges_of ms packages
  edges-are cs edges is e = e ∙ ap (λ ds. map (targets_at ds ms) (range_with_len 0 (length ds))) is ∙ ap (λ n. map row (range_with_len 0 n)) all-long

  pub unresolved-are : (cs : List Candidate) (texts : List (List (List ℕ))) → cs ≡ candidates ms packages
      → texts ≡ map (unresolved_at cs ms) (range_with_len 0 (length cs)) → texts ≡ unresolved ms packages
  unresolved-are cs texts is e =
      e ∙ ap (λ ds. map (unresolved_at ds ms) (range_with_len 0 (length ds))) is ∙ ap (λ n. map (unresolved_at (candidates ms packages) ms) (range_with_len 0 n)) all-long

  pub closed-at : (edges : List (List ℕ)) (roots : List ℕ) → edges ≡ edges_of ms packages → roots ≡ roots_of packages edges → IsClosed edges roots
  closed-at edges roots e r =
      let all : roots ≡ roots_of packages (edges_of ms packages) = r ∙ ap (roots_of packages) e in
      subst (λ es. IsClosed es roots) (sym e) (subst (IsClosed (edges_of ms packages)) (sym all) closed)

-- the roots are in order
pub roots-rise : (packages : List PackageValue) (edges : List (List ℕ)) (roots : List ℕ) → roots ≡ roots_of packages edges → Rise roots
roots-rise packages edges roots is = subst Rise (sym is)
    (AllPairs-filter (λ a b. a < b) _ (places (length edges)) (λ i j d l k. (
    let m : j < length edges = omega (arith, k, length-range_with_len 0 (length edges)) in
    omega (arith, l, get_or-range_with_len 0 (length edges) i d (omega (arith, l, m)), get_or-range_with_len 0 (length edges) j d m)
    )))
