-- Lists of remarks, part by part.
use Rattle.std.proofs.Common.{◌≡◌, ◌∙◌, ◌++◌, ℕ, Bool, false, List, [], ◌∷◌, Option, None, ap, append_assoc, sym}
use Rattle.rustsec_texts.specs.declared.collection.Collection.{Collection}
use Rattle.rustsec_lint_database.specs.Placement.{collection_remarks}
use Rattle.rustsec_lint_database.specs.Remarks.{remark, unless}
use Rattle.rustsec_lint_database.specs.declared.remark.Remark.{Remark}
use Rattle.rustsec_lint_database.specs.declared.remark.RemarkKind.{RemarkKind}
use Rattle.rustsec_lint_database.specs.declared.remark.RemarkKind.TheVariants as kind

-- the remark, where the test fails
pub one-said : (b : Bool) (k : RemarkKind) (words text : List ℕ) → b ≡ false → text ≡ words → remark k text ∷ [] ≡ unless b k words
one-said b k words text fails is = rw fails (ap (λ t. remark k t ∷ []) is)

-- the remark on a folder in no collection
pub no-collection : (named at : Option Collection) (text : List ℕ) → at ≡ None → remark kind.Misplaced text ∷ [] ≡ collection_remarks named None
    → remark kind.Misplaced text ∷ [] ≡ collection_remarks named at
no-collection named at text none is = is ∙ ap (collection_remarks named) (sym none)

-- three parts, one after the other
pub three : (none one two all first second third : List Remark) → none ≡ [] → one ≡ none ++ first → two ≡ one ++ second → all ≡ two ++ third
    → all ≡ first ++ (second ++ third)
three none one two all first second third empty a b c =
    c ∙ (ap (λ xs. xs ++ third) (b ∙ ap (λ xs. xs ++ second) (a ∙ ap (λ xs. xs ++ first) empty)) ∙ append_assoc first second third)
