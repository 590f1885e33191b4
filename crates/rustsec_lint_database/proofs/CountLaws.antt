-- How many faults and notes there are with one more file.
use Rattle.std.proofs.Common.{◌≡◌, ◌∙◌, ◌+◌, ◌<◌, ◌≤◌, ◌++◌, ℕ, Bool, true, false, cond, List, [], ◌∷◌, append-nil, arith, drop, get_or, length, take, refl, sym, ap}
use Rattle.std.specs.Prelude.{count_by, not}
use Rattle.std.proofs.lemmas.Grind.{flat_map-append}
use Rattle.std.proofs.lemmas.List.{take-append-drop, take_more}
use Rattle.std.proofs.lemmas.List.Sums.{sum_by-append}
use Rattle.rustsec_lint_database.specs.Counts.{faults, has_earlier, notes, remarks_of}
use Rattle.rustsec_lint_database.specs.Remarks.{is_fault}
use Rattle.rustsec_lint_database.specs.declared.database.Entry.{Entry}
use Rattle.rustsec_lint_database.specs.declared.remark.Remark.{Remark}

counted : {X : Type 0} (p : X → Bool) (xs ys : List X) → count_by p (xs ++ ys) ≡ count_by p xs + count_by p ys
counted p xs ys = sum_by-append _ xs ys

remarks-append : (xs ys : List Entry) → remarks_of (xs ++ ys) ≡ remarks_of xs ++ remarks_of ys
remarks-append xs ys = flat_map-append (λ (e : Entry). e.file.remarks) xs ys

faults-append : (upstream : Bool) (xs ys : List Entry) → faults upstream (xs ++ ys) ≡ faults upstream xs + faults upstream ys
faults-append upstream xs ys =
    let p : Remark → Bool = λ r. is_fault upstream r.kind in
    let remarks = ap (count_by p) (remarks-append xs ys) ∙ counted p (remarks_of xs) (remarks_of ys) in
    let earlier = counted has_earlier xs ys in
    omega (arith, remarks, earlier)

notes-append : (upstream : Bool) (xs ys : List Entry) → notes upstream (xs ++ ys) ≡ notes upstream xs + notes upstream ys
notes-append upstream xs ys =
    let p : Remark → Bool = λ r. not (is_fault upstream r.kind) in
    ap (count_by p) (remarks-append xs ys) ∙ counted p (remarks_of xs) (remarks_of ys)

pub faults_more : (upstream : Bool) (es : List Entry) (i : ℕ) (d : Entry) → i < length es
    → faults upstream (take (i + 1) es) ≡ faults upstream (take i es) + faults upstream (get_or es i d ∷ [])
faults_more upstream es i d low = ap (faults upstream) (take_more es i d low) ∙ faults-append upstream (take i es) (get_or es i d ∷ [])

pub notes_more : (upstream : Bool) (es : List Entry) (i : ℕ) (d : Entry) → i < length es
    → notes upstream (take (i + 1) es) ≡ notes upstream (take i es) + notes upstream (get_or es i d ∷ [])
notes_more upstream es i d low = ap (notes upstream) (take_more es i d low) ∙ notes-append upstream (take i es) (get_or es i d ∷ [])

-- each remark is a fault or a note
both : (upstream : Bool) (rs : List Remark)
    → count_by (λ (r : Remark). is_fault upstream r.kind) rs + count_by (λ (r : Remark). not (is_fault upstream r.kind)) rs ≡ length rs
both upstream [] = refl
both upstream (r ∷ rs) =
    let p : Remark → Bool = λ r. is_fault upstream r.kind in
    let q : Remark → Bool = λ r. not (is_fault upstream r.kind) in
    let first : count_by p (r ∷ []) + count_by q (r ∷ []) ≡ 1 = one (is_fault upstream r.kind) in
    let faults = counted p (r ∷ []) rs in
    let notes = counted q (r ∷ []) rs in
    let rest = both upstream rs in
    omega (arith, first, faults, notes, rest)
  where
    one : (b : Bool) → (0 + cond b 1 0) + (0 + cond (not b) 1 0) ≡ 1
    one true = refl
    one false = refl

-- the faults and the notes of a file: its remarks, and whether it has the ID of an earlier one
pub all_counted : (upstream : Bool) (e : Entry) → faults upstream (e ∷ []) + notes upstream (e ∷ []) ≡ length e.file.remarks + count_by has_earlier (e ∷ [])
all_counted upstream e =
    let same : remarks_of (e ∷ []) ≡ e.file.remarks = append-nil e.file.remarks in
    let sum = both upstream (remarks_of (e ∷ [])) in
    let all = ap length same in
    omega (arith, sum, all)

-- the first of some files have at most the faults and notes of all
pub at_most_all : (upstream : Bool) (es : List Entry) (i : ℕ) (d : Entry) → i < length es
    → faults upstream (take i es) + notes upstream (take i es) + (faults upstream (get_or es i d ∷ []) + notes upstream (get_or es i d ∷ []))
    ≤ faults upstream es + notes upstream es
at_most_all upstream es i d low =
    let rest = drop (i + 1) es in
    let whole : es ≡ take (i + 1) es ++ rest = sym (take-append-drop (i + 1) es) in
    let f = ap (faults upstream) whole ∙ faults-append upstream (take (i + 1) es) rest in
    let n = ap (notes upstream) whole ∙ notes-append upstream (take (i + 1) es) rest in
    let g = faults_more upstream es i d low in
    let m = notes_more upstream es i d low in
    omega (arith, f, n, g, m)
