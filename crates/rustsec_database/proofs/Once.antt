-- Files load as one list of advisories only, or their first fault has one kind only, and not both.
use Rattle.std.proofs.Common.{◌≡◌, ◌∙◌, ◌⊎◌, ◌++◌, ℕ, Bool, true, false, List, [], ◌∷◌, Ok, inl, inr, filter, length, refl, subst, sym, ap, arith}
use Rattle.std.proofs.lemmas.Bool.{cases_Bool}
use Rattle.std.proofs.lemmas.List.{get_or_append_left, length-append}
use Rattle.std.proofs.lemmas.List.Elements.{filter-append}
use Rattle.std.proofs.lemmas.List.Folds.{Any-from_list_any}
use Rattle.std.proofs.Math.Seq.{get_or-append_seam}
use Rattle.std.specs.Prelude.{cond}
use Rattle.rustsec_values.specs.Failure.{Failure, IsMemory}
use Rattle.rustsec_values.specs.declared.error.ErrorKind.{ErrorKind}
use Rattle.rustsec_advisory.proofs.Unique.{advisory_unique}
use Rattle.rustsec_advisory.specs.declared.advisory.Advisory.{Advisory}
use Rattle.rustsec_files.specs.Allowed.{Allowed, AnswersOnce}
use Rattle.rustsec_files.specs.declared.source_file.SourceFile.{SourceFile}
use Rattle.rustsec_files.proofs.Once.{listed-once, listed-or-error}
use Rattle.rustsec_database.specs.Placement.{IsFiled, IsMisfiled, placed_in, kind_of, path_verdict}
use Rattle.rustsec_database.specs.Loaded.{AreFiled, AreLoaded, HaveOwnIds, IsAtFault, IsFirstFault, has_id, is_known, is_stored}
use Rattle.rustsec_database.specs.Opened.{AreOpened, IsOpenRefusal}

-- ---- one file

-- a file is filed as one advisory only
pub filed-unique : (path text : List ℕ) (a b : Advisory) → IsFiled path text a → IsFiled path text b → a ≡ b
filed-unique path text a b h k =
    let same = advisory_unique text h.written k.written h.is_advisory k.is_advisory in
    let both : Ok h.collection ≡ Ok k.collection = sym h.verdict ∙ (ap (path_verdict path) same ∙ k.verdict) in
    let there : h.collection ≡ k.collection = cc both in
    let step : placed_in h.collection h.written ≡ placed_in k.collection k.written = λ i. placed_in (there i) (same i) in
    h.is ∙ (step ∙ sym k.is)

-- a file that is filed is not misfiled
filed-or-not : {P : Type 0} (path text : List ℕ) (a : Advisory) (k : ErrorKind) → IsFiled path text a → IsMisfiled path text k → P
filed-or-not path text a k h (inl (is, never)) = absurd (never h.written h.is_advisory)
filed-or-not path text a k h (inr (b, m, (is, (verdict, same)))) =
    let one = advisory_unique text h.written b h.is_advisory is in
    absurd (cc (sym h.verdict ∙ (ap (path_verdict path) one ∙ verdict)))

-- a misfiled file has one kind of error only
misfiled-once : (path text : List ℕ) (k l : ErrorKind) → IsMisfiled path text k → IsMisfiled path text l → k ≡ l
misfiled-once path text k l (inl (is, never)) (inl (also, still)) = is ∙ sym also
misfiled-once path text k l (inl (is, never)) (inr (b, m, (there, rest))) = absurd (never b there)
misfiled-once path text k l (inr (a, m, (there, rest))) (inl (is, never)) = absurd (never a there)
misfiled-once path text k l (inr (a, m, (there, (verdict, is)))) (inr (b, n, (also, (other, same)))) =
    let one = advisory_unique text a b there also in
    let fails = sym verdict ∙ (ap (path_verdict path) one ∙ other) in
    is ∙ (ap kind_of (cc fails) ∙ sym same)

-- a file at fault has one kind of error only
at-fault-once : (loaded : List Advisory) (path text : List ℕ) (k l : ErrorKind) → IsAtFault loaded path text k → IsAtFault loaded path text l → k ≡ l
at-fault-once loaded path text k l (inl h) (inl g) = misfiled-once path text k l h g
at-fault-once loaded path text k l (inl h) (inr (a, (filed, rest))) = filed-or-not path text a k filed h
at-fault-once loaded path text k l (inr (a, (filed, rest))) (inl g) = filed-or-not path text a l filed g
at-fault-once loaded path text k l (inr (a, (f, (s, (n, is))))) (inr (b, (g, (t, (m, same))))) = is ∙ sym same

-- ---- some files

are-filed-once : (files : List SourceFile) (xs ys : List Advisory) → AreFiled files xs → AreFiled files ys → xs ≡ ys
are-filed-once [] [] [] h k = refl
are-filed-once [] [] (y ∷ ys) h k = absurd k
are-filed-once [] (x ∷ xs) ys h k = absurd h
are-filed-once (f ∷ files) [] ys h k = absurd h
are-filed-once (f ∷ files) (x ∷ xs) [] h k = absurd k
are-filed-once (f ∷ files) (x ∷ xs) (y ∷ ys) h k =
    let first = filed-unique f.path f.text x y h.0 k.0 in
    let rest = are-filed-once files xs ys h.1 k.1 in
    λ i. first i ∷ rest i

pub loaded-once : (files : List SourceFile) (xs ys : List Advisory) → AreLoaded files xs → AreLoaded files ys → xs ≡ ys
loaded-once files xs ys h k = h.loaded_are ∙ (ap (filter is_stored) (are-filed-once files h.all k.all h.are_filed k.are_filed) ∙ sym k.loaded_are)

-- the advisories that the files before one, the file itself and the files after it are filed as
record FiledAround (good : List SourceFile) (bad : SourceFile) (all : List Advisory) : Type 0 where
  before : List Advisory
  one : Advisory
  after : List Advisory
  are : all ≡ before ++ one ∷ after
  are_filed : AreFiled good before
  is_filed : IsFiled bad.path bad.text one

filed-around : (good : List SourceFile) (bad : SourceFile) (rest : List SourceFile) (all : List Advisory) → AreFiled (good ++ bad ∷ rest) all
    → FiledAround good bad all
filed-around [] bad rest [] h = absurd h
filed-around [] bad rest (a ∷ all) h = record { before = []; one = a; after = all; are = refl; are_filed = tt; is_filed = h.0 }
filed-around (f ∷ good) bad rest [] h = absurd h
filed-around (f ∷ good) bad rest (a ∷ all) h =
    let more = filed-around good bad rest all h.1 in
    record {
      before = a ∷ more.before;
      one = more.one;
      after = more.after;
      are = ap (λ xs. a ∷ xs) more.are;
      are_filed = (h.0, more.are_filed);
      is_filed = more.is_filed;
    }

-- if no two advisories have the same ID, none before an advisory has its ID
own-id : (before : List Advisory) (a : Advisory) (after : List Advisory) → HaveOwnIds (before ++ a ∷ after) → is_known before a ≡ false
own-id before a after own = elim (cases_Bool (is_known before a)) [
  | inl known ↦
      let (i, b, l, at, has) = Any-from_list_any (has_id a.metadata.id) before known in
      let long = length-append before (a ∷ after) in
      let there = get_or_append_left before (a ∷ after) b i l in
      let seam = get_or-append_seam before a after b in
      let never = own i (length before) b l (omega (arith, long)) in
      let apart : has_id a.metadata.id b ≡ false = rw (seam, there, at) at never in
      cc (sym apart ∙ has)
  | inr other ↦ other
]

own-id-stored : (before after : List Advisory) (a : Advisory) (b : Bool) → b ≡ true → HaveOwnIds (before ++ cond b (a ∷ after) after)
    → is_known before a ≡ false
own-id-stored before after a true is own = own-id before a after own
own-id-stored before after a false is own = cc is

filed-not-at-fault : {P : Type 0} (good : List SourceFile) (bad : SourceFile) (all loaded : List Advisory) (k : ErrorKind)
    (around : FiledAround good bad all) → HaveOwnIds (filter is_stored around.before ++ filter is_stored (around.one ∷ around.after))
    → loaded ≡ filter is_stored around.before → IsAtFault loaded bad.path bad.text k → P
filed-not-at-fault good bad all loaded k around own before (inl misfiled) = filed-or-not bad.path bad.text around.one k around.is_filed misfiled
filed-not-at-fault good bad all loaded k around own before (inr (a, (filed, (stored, (known, is))))) =
    let same = filed-unique bad.path bad.text a around.one filed around.is_filed in
    let stored_too = subst (λ (x : Advisory). is_stored x ≡ true) same stored in
    let apart = own-id-stored (filter is_stored around.before) (filter is_stored around.after) around.one (is_stored around.one) stored_too own in
    let known_too = subst (λ (x : Advisory). is_known loaded x ≡ true) same known in
    let there = subst (λ (xs : List Advisory). is_known xs around.one ≡ true) before known_too in
    absurd (cc (sym apart ∙ there))

-- files do not load if one is at fault after those before it are loaded
loaded-or-at-fault : {P : Type 0} (files good : List SourceFile) (bad : SourceFile) (rest : List SourceFile) (loaded before : List Advisory) (k : ErrorKind)
    → files ≡ good ++ bad ∷ rest → AreLoaded files loaded → AreLoaded good before → IsAtFault before bad.path bad.text k → P
loaded-or-at-fault files good bad rest loaded before k parts h g fault =
    let around = filed-around good bad rest h.all (subst (λ (fs : List SourceFile). AreFiled fs h.all) parts h.are_filed) in
    let stored = h.loaded_are ∙ (ap (filter is_stored) around.are ∙ filter-append is_stored around.before (around.one ∷ around.after)) in
    let first = g.loaded_are ∙ ap (filter is_stored) (are-filed-once good g.all around.before g.are_filed around.are_filed) in
    filed-not-at-fault good bad h.all before k around (subst HaveOwnIds stored h.own_ids) first fault

-- files that load have no first fault
pub loaded-or-fault : {P : Type 0} (files : List SourceFile) (loaded : List Advisory) (e : Failure) → AreLoaded files loaded → IsFirstFault files e → P
loaded-or-fault files loaded e h fault =
    loaded-or-at-fault files fault.good fault.bad fault.rest loaded fault.loaded e.kind fault.files_are h fault.are_loaded fault.fault

-- files with a first fault do not load
pub fault-excludes : (files : List SourceFile) (e : Failure) → IsFirstFault files e ⊎ IsMemory e
    → ((other : List Advisory) → ¬ AreLoaded files other) ⊎ IsMemory e
fault-excludes files e (inl fault) = inl (λ other h. loaded-or-fault files other e h fault)
fault-excludes files e (inr memory) = inr memory

-- ---- the first fault

-- two elements at which a list is split are at the same place, or one is before the other
abbrev Parted : List SourceFile → SourceFile → List SourceFile → SourceFile → Type 0
Parted good bad good' bad' =
    ((good ≡ good') × (bad ≡ bad'))
    ⊎ (((mid : List SourceFile) × (good' ≡ good ++ bad ∷ mid)) ⊎ ((mid : List SourceFile) × (good ≡ good' ++ bad' ∷ mid)))

parted-cons : (f : SourceFile) (good : List SourceFile) (bad : SourceFile) (good' : List SourceFile) (bad' : SourceFile) → Parted good bad good' bad'
    → Parted (f ∷ good) bad (f ∷ good') bad'
parted-cons f good bad good' bad' (inl (same, also)) = inl (ap (λ xs. f ∷ xs) same, also)
parted-cons f good bad good' bad' (inr (inl (mid, is))) = inr (inl (mid, ap (λ xs. f ∷ xs) is))
parted-cons f good bad good' bad' (inr (inr (mid, is))) = inr (inr (mid, ap (λ xs. f ∷ xs) is))

cons-same : (x y : SourceFile) (xs ys : List SourceFile) → x ∷ xs ≡ y ∷ ys → (x ≡ y) × (xs ≡ ys)
cons-same x y xs ys h = (cc h, cc h)

parted : (good : List SourceFile) (bad : SourceFile) (rest good' : List SourceFile) (bad' : SourceFile) (rest' : List SourceFile)
    → good ++ bad ∷ rest ≡ good' ++ bad' ∷ rest' → Parted good bad good' bad'
parted [] bad rest [] bad' rest' is = inl (refl, (cons-same bad bad' rest rest' is).0)
parted [] bad rest (g ∷ good') bad' rest' is =
    inr (inl (good', λ i. sym (cons-same bad g rest (good' ++ bad' ∷ rest') is).0 i ∷ good'))
parted (f ∷ good) bad rest [] bad' rest' is =
    inr (inr (good, λ i. (cons-same f bad' (good ++ bad ∷ rest) rest' is).0 i ∷ good))
parted (f ∷ good) bad rest (g ∷ good') bad' rest' is =
    let same = cons-same f g (good ++ bad ∷ rest) (good' ++ bad' ∷ rest') is in
    let more = parted-cons f good bad good' bad' (parted good bad rest good' bad' rest' same.1) in
    subst (λ (x : SourceFile). Parted (f ∷ good) bad (x ∷ good') bad') same.0 more

same-fault : (good good' : List SourceFile) (bad bad' : SourceFile) (loaded loaded' : List Advisory) (k l : ErrorKind) → good ≡ good' → bad ≡ bad'
    → AreLoaded good loaded → AreLoaded good' loaded' → IsAtFault loaded bad.path bad.text k → IsAtFault loaded' bad'.path bad'.text l → k ≡ l
same-fault good good' bad bad' loaded loaded' k l same also h g fault other =
    let one = loaded-once good' loaded loaded' (subst (λ (fs : List SourceFile). AreLoaded fs loaded) same h) g in
    let moved = subst (λ (f : SourceFile). IsAtFault loaded f.path f.text k) also fault in
    at-fault-once loaded' bad'.path bad'.text k l (subst (λ (xs : List Advisory). IsAtFault xs bad'.path bad'.text k) one moved) other

fault-of-parts : (files : List SourceFile) (e f : Failure) (h : IsFirstFault files e) (g : IsFirstFault files f) → Parted h.good h.bad g.good g.bad
    → e.kind ≡ f.kind
fault-of-parts files e f h g (inl (same, also)) =
    same-fault h.good g.good h.bad g.bad h.loaded g.loaded e.kind f.kind same also h.are_loaded g.are_loaded h.fault g.fault
fault-of-parts files e f h g (inr (inl (mid, is))) =
    loaded-or-at-fault g.good h.good h.bad mid g.loaded h.loaded e.kind is g.are_loaded h.are_loaded h.fault
fault-of-parts files e f h g (inr (inr (mid, is))) =
    loaded-or-at-fault h.good g.good g.bad mid h.loaded g.loaded f.kind is h.are_loaded g.are_loaded g.fault

-- the first fault of some files has one kind
pub fault-once : (files : List SourceFile) (e f : Failure) → IsFirstFault files e → IsFirstFault files f → e.kind ≡ f.kind
fault-once files e f h g = fault-of-parts files e f h g (parted h.good h.bad h.rest g.good g.bad g.rest (sym h.files_are ∙ g.files_are))

-- ---- the files under a root, if each path has one answer

module _ (allowed : Allowed) (once : AnswersOnce allowed) (root : List ℕ) where
  pub opened-once : (xs ys : List Advisory) → AreOpened allowed root xs → AreOpened allowed root ys → xs ≡ ys
  opened-once xs ys (files, (listed, load)) (files', (listed', load')) =
      let same = listed-once allowed once root files files' listed listed' in
      loaded-once files' xs ys (subst (λ (fs : List SourceFile). AreLoaded fs xs) same load) load'

  -- if a root opens, its only refusal is out of memory
  pub opened-or-refused : (xs : List Advisory) (e : Failure) → AreOpened allowed root xs → IsOpenRefusal allowed root e → IsMemory e
  opened-or-refused xs e (files, (listed, load)) (inl (inl (is, fails))) = listed-or-error allowed once root files listed fails
  opened-or-refused xs e (files, (listed, load)) (inl (inr memory)) = memory
  opened-or-refused xs e (files, (listed, load)) (inr (files', (listed', fault))) =
      let same = listed-once allowed once root files files' listed listed' in
      loaded-or-fault files' xs e (subst (λ (fs : List SourceFile). AreLoaded fs xs) same load) fault

  -- all other refusals of a root have one kind
  pub open-refused-once : (e f : Failure) → IsOpenRefusal allowed root e → IsOpenRefusal allowed root f
      → (e.kind ≡ f.kind) ⊎ (IsMemory e ⊎ IsMemory f)
  open-refused-once e f (inl (inr memory)) k = inr (inl memory)
  open-refused-once e f (inl (inl h)) (inl (inr memory)) = inr (inr memory)
  open-refused-once e f (inl (inl h)) (inl (inl k)) = inl (h.0 ∙ sym k.0)
  open-refused-once e f (inl (inl h)) (inr (files, (listed, fault))) = listed-or-error allowed once root files listed h.1
  open-refused-once e f (inr h) (inl (inr memory)) = inr (inr memory)
  open-refused-once e f (inr (files, (listed, fault))) (inl (inl k)) = listed-or-error allowed once root files listed k.1
  open-refused-once e f (inr (files, (listed, fault))) (inr (files', (listed', fault'))) =
      let same = listed-once allowed once root files files' listed listed' in
      inl (fault-once files' e f (subst (λ (fs : List SourceFile). IsFirstFault fs e) same fault) fault')
