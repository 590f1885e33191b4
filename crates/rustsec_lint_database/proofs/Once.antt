-- If each path has one answer, the files under a root have one list of entries.
use Rattle.std.proofs.Common.{◌≡◌, ◌∙◌, ℕ, List, [], ◌∷◌, None, Some, ap, refl, subst, sym}
use Rattle.rustsec_files.specs.Paths.{is_draft}
use Rattle.rustsec_files.specs.Allowed.{Allowed, AnswersOnce}
use Rattle.rustsec_files.specs.Listed.{Pairwise, Paths}
use Rattle.rustsec_files.proofs.Once.{paths-once, paths-or-not, read-or-not, text-once}
use Rattle.rustsec_advisory.proofs.Unique.{lints_unique}
use Rattle.rustsec_lint_database.specs.Entries.{AreEntries, AreLintedAt, entries_of}
use Rattle.rustsec_lint_database.specs.Files.{IsLintAt, IsLintOf, linted, of_advisory, of_text, refused, unread}
use Rattle.rustsec_lint_database.specs.declared.database.Entry.{Entry}
use Rattle.rustsec_lint_database.specs.declared.file.FileLint.{FileLint}

-- a text has one list of remarks
lint-unique : (path text : List ℕ) (f g : FileLint) → IsLintOf path text f → IsLintOf path text g → f ≡ g
lint-unique path text f g (linted a errors h is) (linted b others k also) =
    let same = lints_unique text (Some (is_draft path)) a b errors others h k in
    let step : of_advisory path a errors ≡ of_advisory path b others = λ i. of_advisory path (same.0 i) (same.1 i) in
    is ∙ (step ∙ sym also)
lint-unique path text f g (linted a errors h is) (refused never also) = absurd (never a (h.document, h.is_advisory))
lint-unique path text f g (refused never is) (linted a errors h also) = absurd (never a (h.document, h.is_advisory))
lint-unique path text f g (refused never is) (refused again also) = is ∙ sym also

module _ (allowed : Allowed) (once : AnswersOnce allowed) where
  lint-once : (path : List ℕ) (f g : FileLint) → IsLintAt allowed path f → IsLintAt allowed path g → f ≡ g
  lint-once path f g (of_text text read h) (of_text other again k) =
      lint-unique path other f g (subst (λ (t : List ℕ). IsLintOf path t f) (text-once allowed once path text other read again) h) k
  lint-once path f g (of_text text read h) (unread fails is) = read-or-not allowed once path text read fails
  lint-once path f g (unread fails is) (of_text text read h) = read-or-not allowed once path text read fails
  lint-once path f g (unread fails is) (unread again also) = is ∙ sym also

  files-once : (paths : List (List ℕ)) (fs gs : List FileLint) → Pairwise (IsLintAt allowed) paths fs → Pairwise (IsLintAt allowed) paths gs → fs ≡ gs
  files-once [] [] [] h k = refl
  files-once [] [] (g ∷ gs) h k = absurd k
  files-once [] (f ∷ fs) gs h k = absurd h
  files-once (path ∷ paths) [] gs h k = absurd h
  files-once (path ∷ paths) (f ∷ fs) [] h k = absurd k
  files-once (path ∷ paths) (f ∷ fs) (g ∷ gs) h k =
      let first = lint-once path f g h.0 k.0 in
      let rest = files-once paths fs gs h.1 k.1 in
      λ i. first i ∷ rest i

  linted-once : (paths : List (List ℕ)) (es ds : List Entry) → AreLintedAt allowed paths es → AreLintedAt allowed paths ds → es ≡ ds
  linted-once paths es ds h k = h.entries_are ∙ (ap entries_of (files-once paths h.files k.files h.each k.each) ∙ sym k.entries_are)

  pub entries-once : (root : List ℕ) (es ds : List Entry) → AreEntries allowed root es → AreEntries allowed root ds → es ≡ ds
  entries-once root es ds (paths, (found, h)) (others, (again, k)) =
      let same = paths-once allowed once root paths others found again in
      linted-once others es ds (subst (λ (ps : List (List ℕ)). AreLintedAt allowed ps es) same h) k

  pub entries-or-unlisted : {P : Type 0} (root : List ℕ) (es : List Entry) → AreEntries allowed root es → Paths allowed root None → P
  entries-or-unlisted root es (paths, (found, h)) fails = paths-or-not allowed once root paths found fails
