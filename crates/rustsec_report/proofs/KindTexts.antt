-- The text of an object of warnings by their kinds: each kind once, in the order of kinds, with its last list.
use Rattle.std.proofs.Common.{◌≡◌, ◌≤◌, ◌∙◌, ◌++◌, ℕ, Bool, true, false, List, [], ◌∷◌, Option, Some, None, ap, append_assoc, drop, length, map, refl, sym}
use Rattle.std.proofs.lemmas.List.{drop_all}
use Rattle.std.specs.Prelude.{codes}
use Rattle.serde_json.specs.Data.{Data, Members, member, no_members, object, put}
use Rattle.serde_json.specs.View.{items_of}
use Rattle.serde_json.specs.Written.{comma_if, compact_text, items_text, members_text}
use Rattle.serde_json.proofs.OnLiterals.{serde_json_on_literals}
use Rattle.rustsec_json.specs.Trees.{list_tree}
use Rattle.rustsec_texts.specs.WarningKinds.{warning_kind_name, warning_kinds}
use Rattle.rustsec_texts.specs.declared.warning_kind.WarningKind.{WarningKind}
use Rattle.rustsec_texts.specs.declared.warning_kind.WarningKind.TheVariants as kind
use Rattle.rustsec_report.specs.ReportText.{kinds_text, last_list, later_texts, list_text, rows_text}
use Rattle.rustsec_report.specs.Trees.{kinds_of_warnings, object_of, warning_tree, with_members}
use Rattle.rustsec_report.specs.declared.warning.Warning.{Warning}

-- ---- lists

module _ {A : Type 0} (tree : A → Data) where
  later-is : (xs : List A) → items_text true (items_of (map tree xs)) ≡ later_texts tree xs ++ codes "]"
  later-is [] = refl
  later-is (x ∷ xs) =
      let one : items_text true (items_of (map tree (x ∷ xs))) ≡ (codes "," ++ compact_text (tree x)) ++ (later_texts tree xs ++ codes "]") =
      λ i. codes "," ++ (compact_text (tree x) ++ later-is xs i) in
      one ∙ sym (append_assoc (codes "," ++ compact_text (tree x)) (later_texts tree xs) (codes "]"))

  pub list-is : (xs : List A) → compact_text (list_tree tree xs) ≡ list_text tree xs
  list-is [] = refl
  list-is (x ∷ xs) = λ i. codes "[" ++ (compact_text (tree x) ++ later-is xs i)

-- ---- warnings by their kinds

-- members in the order of these kinds, each kind that has a list
abbrev members_of : List (WarningKind × Option (List Warning)) → Members
members_of [] = no_members
members_of ((k, None) ∷ rs) = members_of rs
members_of ((k, Some xs) ∷ rs) = member (warning_kind_name k) (list_tree warning_tree xs) (members_of rs)

-- the four kinds
abbrev rows : Option (List Warning) → Option (List Warning) → Option (List Warning) → Option (List Warning) → List (WarningKind × Option (List Warning))
rows a b c d = (kind.Notice, a) ∷ (kind.Unmaintained, b) ∷ (kind.Unsound, c) ∷ (kind.Yanked, d) ∷ []

row-is : (later : Bool) (k : WarningKind) (xs : List Warning) (ms : Members)
    → members_text later (member (warning_kind_name k) (list_tree warning_tree xs) ms) ≡ comma_if later ++ (codes "\"" ++ (warning_kind_name k ++ (codes "\":" ++ (compact_text (list_tree warning_tree xs) ++ members_text true ms))))
unfolding serde_json_on_literals
row-is later kind.Notice xs ms = refl
row-is later kind.Unmaintained xs ms = refl
row-is later kind.Unsound xs ms = refl
row-is later kind.Yanked xs ms = refl

rows-are : (later : Bool) (rs : List (WarningKind × Option (List Warning))) → members_text later (members_of rs) ≡ rows_text later rs
rows-are later [] = refl
rows-are later ((k, None) ∷ rs) = rows-are later rs
rows-are later ((k, Some xs) ∷ rs) =
    row-is later k xs (members_of rs) ∙ (λ i. comma_if later ++ (codes "\"" ++ (warning_kind_name k ++ (codes "\":" ++ (list-is warning_tree xs i ++ rows-are true rs i)))))

put-yanked : (d : Option (List Warning)) (xs : List Warning) → put (codes "yanked") (list_tree warning_tree xs) (members_of ((kind.Yanked, d) ∷ [])) ≡ members_of ((kind.Yanked, Some xs) ∷ [])
unfolding serde_json_on_literals
put-yanked None xs = refl
put-yanked (Some ys) xs = refl

put-unsound : (c d : Option (List Warning)) (xs : List Warning)
    → put (codes "unsound") (list_tree warning_tree xs) (members_of ((kind.Unsound, c) ∷ (kind.Yanked, d) ∷ [])) ≡ members_of ((kind.Unsound, Some xs) ∷ (kind.Yanked, d) ∷ [])
unfolding serde_json_on_literals
put-unsound (Some ys) d xs = refl
put-unsound None (Some ys) xs = refl
put-unsound None None xs = refl

put-unmaintained : (b c d : Option (List Warning)) (xs : List Warning)
    → put (codes "unmaintained") (list_tree warning_tree xs) (members_of ((kind.Unmaintained, b) ∷ (kind.Unsound, c) ∷ (kind.Yanked, d) ∷ []))
    ≡ members_of ((kind.Unmaintained, Some xs) ∷ (kind.Unsound, c) ∷ (kind.Yanked, d) ∷ [])
unfolding serde_json_on_literals
put-unmaintained (Some ys) c d xs = refl
put-unmaintained None (Some ys) d xs = refl
put-unmaintained None None (Some ys) xs = refl
put-unmaintained None None None xs = refl

put-notice : (a b c d : Option (List Warning)) (xs : List Warning) → put (codes "notice") (list_tree warning_tree xs) (members_of (rows a b c d)) ≡ members_of (rows (Some xs) b c d)
unfolding serde_json_on_literals
put-notice (Some ys) b c d xs = refl
put-notice None (Some ys) c d xs = refl
put-notice None None (Some ys) d xs = refl
put-notice None None None (Some ys) xs = refl
put-notice None None None None xs = refl

put-yanked-2 : (c d : Option (List Warning)) (xs : List Warning)
    → put (codes "yanked") (list_tree warning_tree xs) (members_of ((kind.Unsound, c) ∷ (kind.Yanked, d) ∷ [])) ≡ members_of ((kind.Unsound, c) ∷ (kind.Yanked, Some xs) ∷ [])
unfolding serde_json_on_literals
put-yanked-2 None d xs = put-yanked d xs
put-yanked-2 (Some ys) d xs = λ i. member (codes "unsound") (list_tree warning_tree ys) (put-yanked d xs i)

put-yanked-3 : (b c d : Option (List Warning)) (xs : List Warning)
    → put (codes "yanked") (list_tree warning_tree xs) (members_of ((kind.Unmaintained, b) ∷ (kind.Unsound, c) ∷ (kind.Yanked, d) ∷ []))
    ≡ members_of ((kind.Unmaintained, b) ∷ (kind.Unsound, c) ∷ (kind.Yanked, Some xs) ∷ [])
unfolding serde_json_on_literals
put-yanked-3 None c d xs = put-yanked-2 c d xs
put-yanked-3 (Some ys) c d xs = λ i. member (codes "unmaintained") (list_tree warning_tree ys) (put-yanked-2 c d xs i)

put-unsound-3 : (b c d : Option (List Warning)) (xs : List Warning)
    → put (codes "unsound") (list_tree warning_tree xs) (members_of ((kind.Unmaintained, b) ∷ (kind.Unsound, c) ∷ (kind.Yanked, d) ∷ []))
    ≡ members_of ((kind.Unmaintained, b) ∷ (kind.Unsound, Some xs) ∷ (kind.Yanked, d) ∷ [])
unfolding serde_json_on_literals
put-unsound-3 None c d xs = put-unsound c d xs
put-unsound-3 (Some ys) c d xs = λ i. member (codes "unmaintained") (list_tree warning_tree ys) (put-unsound c d xs i)

put-later-yanked : (a b c d : Option (List Warning)) (xs : List Warning) → put (codes "yanked") (list_tree warning_tree xs) (members_of (rows a b c d)) ≡ members_of (rows a b c (Some xs))
unfolding serde_json_on_literals
put-later-yanked None b c d xs = put-yanked-3 b c d xs
put-later-yanked (Some ys) b c d xs = λ i. member (codes "notice") (list_tree warning_tree ys) (put-yanked-3 b c d xs i)

put-later-unsound : (a b c d : Option (List Warning)) (xs : List Warning) → put (codes "unsound") (list_tree warning_tree xs) (members_of (rows a b c d)) ≡ members_of (rows a b (Some xs) d)
unfolding serde_json_on_literals
put-later-unsound None b c d xs = put-unsound-3 b c d xs
put-later-unsound (Some ys) b c d xs = λ i. member (codes "notice") (list_tree warning_tree ys) (put-unsound-3 b c d xs i)

put-later-unmaintained : (a b c d : Option (List Warning)) (xs : List Warning)
    → put (codes "unmaintained") (list_tree warning_tree xs) (members_of (rows a b c d)) ≡ members_of (rows a (Some xs) c d)
unfolding serde_json_on_literals
put-later-unmaintained None b c d xs = put-unmaintained b c d xs
put-later-unmaintained (Some ys) b c d xs = λ i. member (codes "notice") (list_tree warning_tree ys) (put-unmaintained b c d xs i)

-- the members after some more warnings by kind
gathered : (ws : List (WarningKind × List Warning)) (a b c d : Option (List Warning))
    → with_members (members_of (rows a b c d)) (kinds_of_warnings ws)
    ≡ members_of (rows (last_list kind.Notice a ws) (last_list kind.Unmaintained b ws) (last_list kind.Unsound c ws) (last_list kind.Yanked d ws))
unfolding with_members
gathered [] a b c d = refl
gathered ((kind.Notice, xs) ∷ ws) a b c d =
    ap (λ ms. with_members ms (kinds_of_warnings ws)) (put-notice a b c d xs) ∙ gathered ws (Some xs) b c d
gathered ((kind.Unmaintained, xs) ∷ ws) a b c d =
    ap (λ ms. with_members ms (kinds_of_warnings ws)) (put-later-unmaintained a b c d xs) ∙ gathered ws a (Some xs) c d
gathered ((kind.Unsound, xs) ∷ ws) a b c d =
    ap (λ ms. with_members ms (kinds_of_warnings ws)) (put-later-unsound a b c d xs) ∙ gathered ws a b (Some xs) d
gathered ((kind.Yanked, xs) ∷ ws) a b c d =
    ap (λ ms. with_members ms (kinds_of_warnings ws)) (put-later-yanked a b c d xs) ∙ gathered ws a b c (Some xs)

-- the text of warnings by kind
pub kinds-are : (ws : List (WarningKind × List Warning))
    → compact_text (object_of (kinds_of_warnings ws)) ≡ codes "{" ++ kinds_text false ws warning_kinds
kinds-are ws =
    (λ i. compact_text (object (gathered ws None None None None i))) ∙ ap (λ t. codes "{" ++ t) (rows-are false (rows (last_list kind.Notice None ws) (last_list kind.Unmaintained None ws) (last_list kind.Unsound None ws) (last_list kind.Yanked None ws)))

-- when no kind is left
pub all-written : (ws : List (WarningKind × List Warning)) (later : Bool) (ks : List WarningKind) (i : ℕ) (before now : List ℕ) → length ks ≤ i → ks ≡ warning_kinds
    → now ++ kinds_text later ws (drop i ks) ≡ before ++ (codes "{" ++ kinds_text false ws ks)
    → now ++ codes "}" ≡ before ++ compact_text (object_of (kinds_of_warnings ws))
all-written ws later ks i before now past is h =
    ap (λ l. now ++ kinds_text later ws l) (sym (drop_all i ks past))
    ∙ (h ∙ (ap (λ l. before ++ (codes "{" ++ kinds_text false ws l)) is ∙ ap (λ t. before ++ t) (sym (kinds-are ws))))
