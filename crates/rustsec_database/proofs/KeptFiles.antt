-- What is kept of the advisories of some files, one file after another.
use Rattle.std.proofs.Common.{◌≡◌, ◌∙◌, ◌⊎◌, ◌+◌, ◌++◌, ◌||◌, ℕ, Bool, true, false, cond, List, [], ◌∷◌, Some, None, inl, inr, length, not, refl, sym, ap, subst, arith, length-append}
use Rattle.std.proofs.lemmas.Bool.Decides.{same_from_decides}
use Rattle.std.proofs.lemmas.List.Elements.{filter-append}
use Rattle.std.proofs.lemmas.List.Folds.{list_any-append}
use Rattle.std.specs.Prelude.{Err, IfErr, IfOk, Ok, Result}
use Rattle.std.specs.HashSet.{HashSet, Updates}
use Rattle.std.specs.List.{list_any}
use Rattle.rustsec_values.specs.Failure.{Failure, IsMemory}
use Rattle.rustsec_texts.specs.IdOrder.{id_decides, id_eq}
use Rattle.rustsec_texts.specs.Ids.{IdValue}
use Rattle.rustsec_advisory.specs.declared.advisory.Advisory.{Advisory}
use Rattle.rustsec_files.specs.Allowed.{Allowed, AllowSame}
use Rattle.rustsec_files.specs.Listed.{IsFile, Pairwise, Paths}
use Rattle.rustsec_files.specs.Seen.{seen_by}
use Rattle.rustsec_files.specs.declared.source_file.SourceFile.{SourceFile}
use Rattle.rustsec_database.specs.Placement.{IsFiled, IsMisfiled}
use Rattle.rustsec_database.specs.Kept.{AreOpenedFor, HaveIdsAmong, IsKept, IsKeptLoadOf, IsKeptWith, KeptValue}
use Rattle.rustsec_database.specs.Latest.{later}
use Rattle.rustsec_database.specs.Loaded.{AreLoaded, IsAtFault, IsFault, IsFirstFault, has_id, is_known, is_stored}
use Rattle.rustsec_database.specs.Opened.{AreRead, IsReadRefusal}
use Rattle.rustsec_database.proofs.Files.{added, loaded-more, loaded-none, one-more}
use Rattle.rustsec_database.proofs.Latest.{last-date-more}
use Rattle.rustsec_database.proofs.Opening.{last-fault, opened, opened-weaker, still-refused}
use Rattle.rustsec_database.proofs.Places.{neither}

-- ---- IDs

eq-back : (a b : IdValue) → id_eq a b ≡ id_eq b a
eq-back a b =
    let d = id_decides b a in
    same_from_decides (id_eq a b) (id_eq b a) (id_decides a b) (λ h. sym (d.0 h), λ e. d.1 (sym e))

or-back : (a b : Bool) → cond a true b ≡ (b || a)
or-back true true = refl
or-back true false = refl
or-back false true = refl
or-back false false = refl

-- one ID more
pub more-among : {S : Type 0} (id : IdValue) (old new : HashSet IdValue S) → Updates id_eq old new id true → (q : IdValue)
    → list_any (id_eq q) new.keys ≡ (list_any (id_eq q) old.keys || id_eq q id)
more-among id old new updates q =
    updates.0 q ∙ (ap (λ b. cond b true (list_any (id_eq q) old.keys)) (eq-back id q) ∙ or-back (id_eq q id) (list_any (id_eq q) old.keys))

-- ---- one advisory more

or-false : (b : Bool) → (b || false) ≡ b
or-false true = refl
or-false false = refl

any-more : {A : Type 0} (p : A → Bool) (xs : List A) (x : A) → list_any p (xs ++ x ∷ []) ≡ (list_any p xs || p x)
any-more p xs x = list_any-append p xs (x ∷ []) ∙ ap (λ b. list_any p xs || b) (or-false (p x))

one-longer : {A : Type 0} (xs : List A) (x : A) → length xs + 1 ≡ length (xs ++ x ∷ [])
one-longer xs x = omega (arith, length-append xs (x ∷ []))

pub kept-more : (test : Advisory → Bool) (all : List Advisory) (a : Advisory) (k n : KeptValue) → IsKept test all k
    → n.advisories ≡ cond (test a) (k.advisories ++ a ∷ []) k.advisories
    → ((q : IdValue) → list_any (id_eq q) n.ids ≡ (list_any (id_eq q) k.ids || id_eq q a.metadata.id)) → length n.ids ≡ length k.ids + 1
    → n.last_date ≡ later k.last_date a.metadata.date → IsKept test (all ++ a ∷ []) n
kept-more test all a k n h advisories among number date = record {
  advisories = advisories ∙ (one-more (test a) k.advisories a
      ∙ (ap (λ xs. xs ++ cond (test a) (a ∷ []) []) h.advisories ∙ sym (filter-append test all (a ∷ []))));
  ids = λ q. among q ∙ (ap (λ b. b || id_eq q a.metadata.id) (h.ids q) ∙ sym (any-more (has_id q) all a));
  number = number ∙ (ap (λ m. m + 1) h.number ∙ one-longer all a);
  last_date = date ∙ (ap (λ o. later o a.metadata.date) h.last_date ∙ last-date-more all a);
}

-- an ID is new among the IDs exactly if no advisory of all has it
pub known-kept : (test : Advisory → Bool) (all : List Advisory) (a : Advisory) (k : KeptValue) (b : Bool) → IsKept test all k
    → list_any (id_eq a.metadata.id) k.ids ≡ b → is_known all a ≡ b
known-kept test all a k b h is = sym (h.ids a.metadata.id) ∙ is

not-back : (b c : Bool) → b ≡ not c → (b ≡ true → c ≡ false) × (b ≡ false → c ≡ true)
not-back b true is = (λ h. absurd (cc (sym h ∙ is)), λ h. refl)
not-back b false is = (λ h. refl, λ h. absurd (cc (sym h ∙ is)))

pub is-new : (fresh known : Bool) → fresh ≡ not known → fresh ≡ true → known ≡ false
is-new fresh known is = (not-back fresh known is).0

pub is-known : (fresh known : Bool) → fresh ≡ not known → fresh ≡ false → known ≡ true
is-known fresh known is = (not-back fresh known is).1

-- no stored advisory has an ID that is not among the IDs
among-step : (b : Bool) (test : Advisory → Bool) (xs : List Advisory) (a : Advisory) → list_any test xs ≡ false → test a ≡ false
    → list_any test (cond b (xs ++ a ∷ []) xs) ≡ false
among-step true test xs a none fails = any-more test xs a ∙ (λ i. none i || fails i)
among-step false test xs a none fails = none

pub among-more : (b : Bool) (a : Advisory) (old new : List IdValue) (xs ys : List Advisory) → HaveIdsAmong old xs → ys ≡ cond b (xs ++ a ∷ []) xs
    → ((q : IdValue) → list_any (id_eq q) new ≡ (list_any (id_eq q) old || id_eq q a.metadata.id)) → HaveIdsAmong new ys
among-more b a old new xs ys h are among q none =
    let both = neither (list_any (id_eq q) old) (id_eq q a.metadata.id) (sym (among q) ∙ none) in
    ap (list_any (has_id q)) are ∙ among-step b (has_id q) xs a (h q both.0) both.1

-- ---- one file more

pub kept-with : (test : Advisory → Bool) (all : List Advisory) (path text : List ℕ) (a : Advisory) (k n : KeptValue) → IsFiled path text a
    → is_stored a ≡ true → list_any (id_eq a.metadata.id) k.ids ≡ false → IsKept test all k
    → n.advisories ≡ cond (test a) (k.advisories ++ a ∷ []) k.advisories
    → ((q : IdValue) → list_any (id_eq q) n.ids ≡ (list_any (id_eq q) k.ids || id_eq q a.metadata.id)) → length n.ids ≡ length k.ids + 1
    → n.last_date ≡ later k.last_date a.metadata.date → IsKeptWith test all path text n
kept-with test all path text a k n filed stored new h advisories among number date = record {
  place = Some (length all);
  more = all ++ a ∷ [];
  is_added = added all (all ++ a ∷ []) path text a (length all) filed stored (known-kept test all a k false h new) refl refl;
  is_kept = kept-more test all a k n h advisories among number date;
}

-- a file that is misfiled is at fault, whatever is loaded
pub misfiled-fault : (all : List Advisory) (path text : List ℕ) (e : Failure) → IsMisfiled path text e.kind ⊎ IsMemory e
    → IsAtFault all path text e.kind ⊎ IsMemory e
misfiled-fault all path text e (inl misfiled) = inl (inl misfiled)
misfiled-fault all path text e (inr memory) = inr memory

-- ---- the result of loading one more file, from the result for the files before it

pub keep-next : (test : Advisory → Bool) (files : List SourceFile) (f : SourceFile) (k : KeptValue) (all : List Advisory)
    (answer : Result KeptValue Failure) → AreLoaded files all → IsKept test all k
    → IfOk answer (λ n. (whole : List Advisory) → IsKept test whole k → IsKeptWith test whole f.path f.text n)
    → IfErr answer (λ e. (whole : List Advisory) → IsKept test whole k → IsFault whole f.path f.text e)
    → IsKeptLoadOf test (files ++ f ∷ []) answer
keep-next test files f k all (Ok n) load kept one fault =
    let with = one all kept in
    ((with.more, (loaded-more files f all with.more with.place load with.is_added, with.is_kept)), tt)
keep-next test files f k all (Err e) load kept one fault = (tt, last-fault files f all e load (fault all kept))

-- a refusal is passed on
pub keep-refused : (test : Advisory → Bool) (files : List SourceFile) (f : SourceFile) (before answer : Result KeptValue Failure) (e r : Failure)
    → before ≡ Err e → answer ≡ Err r → r ≡ e → IsKeptLoadOf test files before → IsKeptLoadOf test (files ++ f ∷ []) answer
keep-refused test files f before answer e r was is same h =
    subst (IsKeptLoadOf test (files ++ f ∷ [])) (sym (is ∙ ap (λ x. Err x) same))
    (tt, still-refused files f e (subst (λ (a : Result KeptValue Failure). IfErr a (λ x. IsFirstFault files x ⊎ IsMemory x)) was h.1))

-- nothing is read yet
pub keep-none : (test : Advisory → Bool) (a : Allowed) (paths : List (List ℕ)) (answer : KeptValue) → answer ≡ record { advisories = []; ids = []; last_date = None }
    → (files : List SourceFile) × (Pairwise (IsFile a) [] files × IsKeptLoadOf test files (Ok answer))
keep-none test a paths answer is =
    ([], (tt, (([], (loaded-none, rw is (record { advisories = refl; ids = λ id. refl; number = refl; last_date = refl }))), tt)))

-- the files that were read, with what is kept of them
kept-read : (test : Advisory → Bool) (a : Allowed) (paths : List (List ℕ)) (k : KeptValue) (files : List SourceFile)
    → Pairwise (IsFile a) paths files → (all : List Advisory) × (AreLoaded files all × IsKept test all k)
    → (all : List Advisory) × (AreRead a paths all × IsKept test all k)
kept-read test a paths k files read (all, (load, kept)) = (all, ((files, (read, load)), kept))

pub kept-paths : (test : Advisory → Bool) (a : Allowed) (items paths : List (List ℕ)) (answer : Result KeptValue Failure) → items ≡ paths
    → (files : List SourceFile) × (Pairwise (IsFile a) items files × IsKeptLoadOf test files answer)
    → IfOk answer (λ k. (all : List Advisory) × (AreRead a paths all × IsKept test all k))
kept-paths test a items paths (Ok k) is (files, (read, load)) =
    kept-read test a paths k files (subst (λ (ps : List (List ℕ)). Pairwise (IsFile a) ps files) is read) load.0
kept-paths test a items paths (Err e) is h = tt

pub kept-refused : (test : Advisory → Bool) (a : Allowed) (items paths : List (List ℕ)) (answer : Result KeptValue Failure) → items ≡ paths
    → (files : List SourceFile) × (Pairwise (IsFile a) items files × IsKeptLoadOf test files answer) → IfErr answer (IsReadRefusal a paths)
kept-refused test a items paths (Ok k) is h = tt
kept-refused test a items paths (Err e) is (files, (read, (load, inl fault))) =
    inr (files, (subst (λ (ps : List (List ℕ)). Pairwise (IsFile a) ps files) is read, fault))
kept-refused test a items paths (Err e) is (files, (read, (load, inr memory))) = inl (inr memory)

-- paths that are listed under a root, and the files that are read at them afterwards
pub kept-opened : (test : Advisory → Bool) (a b : Allowed) (root : List ℕ) (paths items : List (List ℕ)) (k : KeptValue) → AllowSame a b
    → Paths a root (Some paths) → items ≡ paths → (all : List Advisory) × (AreRead b items all × IsKept test all k) → AreOpenedFor a root test k
kept-opened test a b root paths items k same found is (all, (read, kept)) = (all, (opened a b root paths items all same found is read, kept))

pub kept-weaker : (l : List (List ℕ) → Type 0) (o : List ℕ → Type 0) (test : Advisory → Bool) (a : Allowed) (root : List ℕ) (k : KeptValue)
    → AreOpenedFor (seen_by l o a) root test k → AreOpenedFor a root test k
kept-weaker l o test a root k (all, (load, kept)) = (all, (opened-weaker l o a root all load, kept))
