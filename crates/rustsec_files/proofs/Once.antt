-- Where each path has one answer, a root has one list of files, or an I/O error is met under it, and not both.
use Rattle.std.proofs.Common.{◌≡◌, ◌⊎◌, ◌++◌, ℕ, List, [], ◌∷◌, Option, Some, None, inl, inr, refl, sym, ap, ◌∙◌, subst}
use Rattle.std.specs.Prelude.{Contains, flat_map, map}
use Rattle.std.proofs.lemmas.List.Elements.{All-cons, All-contains, All-nil, Contains-append_cases}
use Rattle.rustsec_files.specs.Allowed.{Allowed, AnswersOnce}
use Rattle.rustsec_files.specs.Listed.{AreFolders, FailsAtFile, FailsAtFolder, FailsBelow, IsCollection, IsCollectionIfThere, IsFile, IsFolder, Listed, Pairwise, Paths, ShowsFiles, ShowsFolders, crates_of, rust_of}
use Rattle.rustsec_files.specs.Names.{AreInOrder, shown, shown_folders, under}
use Rattle.rustsec_files.specs.declared.entry.FolderEntry.{FolderEntry}
use Rattle.rustsec_files.specs.declared.source_file.SourceFile.{SourceFile}
use Rattle.rustsec_files.proofs.InOrder.{in-order-once}

-- ---- lists that are related place by place

pub pairwise-once : {A B : Type 0} (R : A → B → Type 0) → ((x : A) (y z : B) → R x y → R x z → y ≡ z) → (xs : List A) (ys zs : List B)
    → Pairwise R xs ys → Pairwise R xs zs → ys ≡ zs
pairwise-once R once [] [] [] h k = refl
pairwise-once R once [] [] (z ∷ zs) h k = absurd k
pairwise-once R once [] (y ∷ ys) zs h k = absurd h
pairwise-once R once (x ∷ xs) [] zs h k = absurd h
pairwise-once R once (x ∷ xs) (y ∷ ys) [] h k = absurd k
pairwise-once R once (x ∷ xs) (y ∷ ys) (z ∷ zs) h k =
    let first = once x y z h.0 k.0 in
    let rest = pairwise-once R once xs ys zs h.1 k.1 in
    λ i. first i ∷ rest i

none-in : {X P : Type 0} (x : X) → Contains [] x → P
none-in {X} {P} x h = All-contains (λ (y : X). P) [] x (All-nil _) h

first-or-later : {X : Type 0} (x : X) (xs : List X) (y : X) → Contains (x ∷ xs) y → (x ≡ y) ⊎ Contains xs y
first-or-later x xs y h =
    let alone = All-cons (λ z. x ≡ z) x [] refl (All-nil (λ z. x ≡ z)) in
    elim (Contains-append_cases (x ∷ []) xs y h) [
      | inl there ↦ inl (All-contains (λ z. x ≡ z) (x ∷ []) y alone there)
      | inr later ↦ inr later
    ]

-- what is related to an element of the first list
related-to : {A B : Type 0} (R : A → B → Type 0) (xs : List A) (ys : List B) (x : A) → Pairwise R xs ys → Contains xs x → (y : B) × R x y
related-to R [] ys x h there = none-in x there
related-to R (a ∷ xs) [] x h there = absurd h
related-to R (a ∷ xs) (b ∷ ys) x h there = elim (first-or-later a xs x there) [
  | inl is ↦ (b, subst (λ z. R z b) is h.0)
  | inr later ↦ related-to R xs ys x h.1 later
]

-- ---- by one answer

some-same : {A : Type 0} (a b : A) → Some a ≡ Some b → a ≡ b
some-same a b h = cc h

module _ (allowed : Allowed) (once : AnswersOnce allowed) where
  entries-once : (path : List ℕ) (a b : List FolderEntry) → allowed.lists path (Some a) → allowed.lists path (Some b) → a ≡ b
  entries-once path a b h k = some-same a b (once.lists path (Some a) (Some b) h k)

  listed-or-not : {P : Type 0} (path : List ℕ) (a : List FolderEntry) → allowed.lists path (Some a) → allowed.lists path None → P
  listed-or-not path a h k = absurd (cc (once.lists path (Some a) None h k))

  pub text-once : (path a b : List ℕ) → allowed.reads path (Some a) → allowed.reads path (Some b) → a ≡ b
  text-once path a b h k = some-same a b (once.reads path (Some a) (Some b) h k)

  pub read-or-not : {P : Type 0} (path a : List ℕ) → allowed.reads path (Some a) → allowed.reads path None → P
  read-or-not path a h k = absurd (cc (once.reads path (Some a) None h k))

  -- ---- names

  files-shown-once : (folder : List ℕ) (xs ys : List (List ℕ)) → ShowsFiles allowed folder xs → ShowsFiles allowed folder ys → xs ≡ ys
  files-shown-once folder xs ys h k =
      let same = entries-once folder h.0 k.0 h.1 k.1 in
      in-order-once (shown k.0) xs ys (subst (λ (es : List FolderEntry). AreInOrder (shown es) xs) same h.2) k.2

  folders-shown-once : (collection : List ℕ) (xs ys : List (List ℕ)) → ShowsFolders allowed collection xs → ShowsFolders allowed collection ys
      → xs ≡ ys
  folders-shown-once collection xs ys h k =
      let same = entries-once collection h.0 k.0 h.1 k.1 in
      in-order-once (shown_folders k.0) xs ys (subst (λ (es : List FolderEntry). AreInOrder (shown_folders es) xs) same h.2) k.2

  -- ---- paths

  folder-once : (folder : List ℕ) (xs ys : List (List ℕ)) → IsFolder allowed folder xs → IsFolder allowed folder ys → xs ≡ ys
  folder-once folder xs ys h k =
      h.2 ∙ (ap (map (under folder)) (files-shown-once folder h.0 k.0 h.1 k.1) ∙ sym k.2)

  folders-once : (collection : List ℕ) (names xs ys : List (List ℕ)) → AreFolders allowed collection names xs
      → AreFolders allowed collection names ys → xs ≡ ys
  folders-once collection names xs ys h k =
      let parts = pairwise-once (λ (name : List ℕ) (part : List (List ℕ)). IsFolder allowed (under collection name) part)
      (λ name. folder-once (under collection name)) names h.0 k.0 h.1 k.1 in
      h.2 ∙ (ap (flat_map (λ (part : List (List ℕ)). part)) parts ∙ sym k.2)

  collection-once : (collection : List ℕ) (xs ys : List (List ℕ)) → IsCollection allowed collection xs → IsCollection allowed collection ys → xs ≡ ys
  collection-once collection xs ys h k =
      let names = folders-shown-once collection h.0 k.0 h.1 k.1 in
      folders-once collection k.0 xs ys (subst (λ (ns : List (List ℕ)). AreFolders allowed collection ns xs) names h.2) k.2

  there-once : (collection : List ℕ) (xs ys : List (List ℕ)) → IsCollectionIfThere allowed collection xs
      → IsCollectionIfThere allowed collection ys → xs ≡ ys
  there-once collection xs ys (inl h) (inl k) = collection-once collection xs ys h k
  there-once collection xs ys (inl h) (inr k) = listed-or-not collection h.1.0 h.1.1 k.0
  there-once collection xs ys (inr h) (inl k) = listed-or-not collection k.1.0 k.1.1 h.0
  there-once collection xs ys (inr h) (inr k) = h.1 ∙ sym k.1

  pub paths-once : (root : List ℕ) (xs ys : List (List ℕ)) → Paths allowed root (Some xs) → Paths allowed root (Some ys) → xs ≡ ys
  paths-once root xs ys (crates, rust, first, second, is) (crates', rust', first', second', is') =
      let a = collection-once (crates_of root) crates crates' first first' in
      let b = there-once (rust_of root) rust rust' second second' in
      is ∙ ((λ i. a i ++ b i) ∙ sym is')

  -- ---- no path where one cannot be listed

  folder-or-not : {P : Type 0} (collection : List ℕ) (names xs : List (List ℕ)) → AreFolders allowed collection names xs
      → FailsAtFolder allowed collection names → P
  folder-or-not collection names xs h (name, there, fails) =
      let part = related-to (λ (n : List ℕ) (p : List (List ℕ)). IsFolder allowed (under collection n) p) names h.0 name h.1 there in
      listed-or-not (under collection name) part.1.1.0 part.1.1.1 fails

  below-or-not : {P : Type 0} (collection : List ℕ) (xs : List (List ℕ)) → IsCollection allowed collection xs → FailsBelow allowed collection → P
  below-or-not collection xs h k =
      let names = folders-shown-once collection h.0 k.0 h.1 k.1 in
      folder-or-not collection k.0 xs (subst (λ (ns : List (List ℕ)). AreFolders allowed collection ns xs) names h.2) k.2

  there-or-not : {P : Type 0} (collection : List ℕ) (xs : List (List ℕ)) → IsCollectionIfThere allowed collection xs
      → FailsBelow allowed collection → P
  there-or-not collection xs (inl h) k = below-or-not collection xs h k
  there-or-not collection xs (inr h) k = listed-or-not collection k.1.0 k.1.1 h.0

  pub paths-or-not : {P : Type 0} (root : List ℕ) (xs : List (List ℕ)) → Paths allowed root (Some xs) → Paths allowed root None → P
  paths-or-not root xs (crates, rust, first, second, is) (inl fails) = listed-or-not (crates_of root) first.1.0 first.1.1 fails
  paths-or-not root xs (crates, rust, first, second, is) (inr (inl fails)) = below-or-not (crates_of root) crates first fails
  paths-or-not root xs (crates, rust, first, second, is) (inr (inr fails)) = there-or-not (rust_of root) rust second fails

  -- ---- files

  file-once : (path : List ℕ) (a b : SourceFile) → IsFile allowed path a → IsFile allowed path b → a ≡ b
  file-once path a b h k =
      let same_path = h.0 ∙ sym k.0 in
      let same_text = text-once path a.text b.text h.1 k.1 in
      λ i. record { path = same_path i; text = same_text i }

  -- the files under a root
  pub listed-once : (root : List ℕ) (xs ys : List SourceFile) → Listed allowed root (Some xs) → Listed allowed root (Some ys) → xs ≡ ys
  listed-once root xs ys (paths, found, files) (paths', found', files') =
      let same = paths-once root paths paths' found found' in
      pairwise-once (IsFile allowed) file-once paths' xs ys (subst (λ (ps : List (List ℕ)). Pairwise (IsFile allowed) ps xs) same files) files'

  -- and none where an I/O error is met
  pub listed-or-error : {P : Type 0} (root : List ℕ) (xs : List SourceFile) → Listed allowed root (Some xs) → Listed allowed root None → P
  listed-or-error root xs (paths, found, files) (inl fails) = paths-or-not root paths found fails
  listed-or-error root xs (paths, found, files) (inr (paths', found', (path, there, fails))) =
      let same = paths-once root paths' paths found' found in
      let file = related-to (IsFile allowed) paths xs path files (subst (λ (ps : List (List ℕ)). Contains ps path) same there) in
      read-or-not path file.0.text file.1.1 fails
