-- The files of a database one after another, and the table of the first ones with each ID.
use Rattle.std.proofs.Common.{◌≡◌, ◌∙◌, ◌+◌, ◌<◌, ◌++◌, ℕ, suc, Bool, true, false, cond, List, [], ◌∷◌, Option, Some, None, append-nil, get_or, length, map, slice_get, take, refl, subst, sym, ap, append_assoc}
use Rattle.std.proofs.lemmas.List.{length-map}
use Rattle.std.specs.Prelude.{option_map}
use Rattle.std.proofs.lemmas.Option.{slice_get-map}
use Rattle.std.specs.BTreeMap as tree
use Rattle.std.specs.BTreeMap.{BTreeMap, Updates}
use Rattle.std.specs.List.{find}
use Rattle.std.proofs.lemmas.Bool.{false_from_ne_true}
use Rattle.rustsec_files.specs.Allowed.{Allowed, AllowSame}
use Rattle.rustsec_files.specs.Listed.{Pairwise, Paths}
use Rattle.rustsec_files.proofs.Lists.{pairwise-step, pairwise-weaker}
use Rattle.rustsec_texts.specs.IdOrder.{id_decides, id_eq, id_order, id_ties}
use Rattle.rustsec_texts.specs.Ids.{IdValue}
use Rattle.rustsec_lint_database.specs.Entries.{AreEntries, AreLintedAt, entries_after, entries_of, first_with, has_id}
use Rattle.rustsec_lint_database.specs.Files.{IsLintAt, of_text, unread}
use Rattle.rustsec_lint_database.specs.Firsts.{AreFirsts, IsAdded, file_of, index_with, path_at}
use Rattle.rustsec_lint_database.specs.declared.database.Entry.{Entry}
use Rattle.rustsec_lint_database.specs.declared.file.FileLint.{FileLint}

-- ---- the index of the first file with an ID, where one more file comes

kept-step : (b : Bool) (o p : Option ℕ) (k : ℕ) → cond b (Some 0) (option_map suc o) ≡ Some k → ((j : ℕ) → o ≡ Some j → p ≡ Some j)
    → cond b (Some 0) (option_map suc p) ≡ Some k
kept-step true o p k h more = h
kept-step false None p k h more = absurd (cc h)
kept-step false (Some j) p k h more = rw (more j refl) h

index-kept : (id : IdValue) (files : List FileLint) (f : FileLint) (k : ℕ) → index_with id files ≡ Some k → index_with id (files ++ f ∷ []) ≡ Some k
index-kept id [] f k h = absurd (cc h)
index-kept id (g ∷ files) f k h =
    kept-step (has_id id g) (index_with id files) (index_with id (files ++ f ∷ [])) k h (λ j at. index-kept id files f j at)

index-other : (id : IdValue) (files : List FileLint) (f : FileLint) → has_id id f ≡ false → index_with id (files ++ f ∷ []) ≡ index_with id files
index-other id [] f fails = rw fails refl
index-other id (g ∷ files) f fails = ap (λ o. cond (has_id id g) (Some 0) (option_map suc o)) (index-other id files f fails)

last-step : (b : Bool) (o p : Option ℕ) (k : ℕ) → cond b (Some 0) (option_map suc o) ≡ None → (o ≡ None → p ≡ Some k)
    → cond b (Some 0) (option_map suc p) ≡ Some (suc k)
last-step true o p k h more = absurd (cc h)
last-step false None p k h more = rw (more refl) refl
last-step false (Some j) p k h more = absurd (cc h)

index-last : (id : IdValue) (files : List FileLint) (f : FileLint) → index_with id files ≡ None → has_id id f ≡ true
    → index_with id (files ++ f ∷ []) ≡ Some (length files)
index-last id [] f none passes = rw passes refl
index-last id (g ∷ files) f none passes =
    last-step (has_id id g) (index_with id files) (index_with id (files ++ f ∷ [])) (length files) none (λ h. index-last id files f h passes)

-- ---- the first file with an ID, by its index

none-step : (b : Bool) (o : Option ℕ) (g : FileLint) (r : Option FileLint) → cond b (Some 0) (option_map suc o) ≡ None → (o ≡ None → r ≡ None)
    → cond b (Some g) r ≡ None
none-step true o g r h more = absurd (cc h)
none-step false None g r h more = more refl
none-step false (Some j) g r h more = absurd (cc h)

found-none : (id : IdValue) (files : List FileLint) → index_with id files ≡ None → find (has_id id) files ≡ None
found-none id [] h = refl
found-none id (g ∷ files) h = none-step (has_id id g) (index_with id files) g (find (has_id id) files) h (λ none. found-none id files none)

some-step : (b : Bool) (o : Option ℕ) (g : FileLint) (files : List FileLint) (r : Option FileLint) (k : ℕ) → Some k ≡ cond b (Some 0) (option_map suc o)
    → ((j : ℕ) → Some j ≡ o → r ≡ slice_get files j) → cond b (Some g) r ≡ slice_get (g ∷ files) k
some-step true o g files r k h more =
    let zero_is : k ≡ 0 = cc h in
    rw zero_is refl
some-step false None g files r k h more = absurd (cc h)
some-step false (Some j) g files r k h more =
    let next : k ≡ suc j = cc h in
    rw next (more j refl)

found-some : (id : IdValue) (files : List FileLint) (k : ℕ) → Some k ≡ index_with id files → find (has_id id) files ≡ slice_get files k
found-some id [] k h = absurd (cc h)
found-some id (g ∷ files) k h =
    some-step (has_id id g) (index_with id files) g files (find (has_id id) files) k h (λ j at. found-some id files j at)

-- ---- the table after one more file

-- the file has no ID
pub firsts-none : (firsts : BTreeMap IdValue ℕ) (files : List FileLint) (f : FileLint) → f.id ≡ None → AreFirsts firsts files → AreFirsts firsts (files ++ f ∷ [])
firsts-none firsts files f none table q =
    let other : has_id q f ≡ false = rw none refl in
    table q ∙ sym (index-other q files f other)

known-step : (files : List FileLint) (f : FileLint) (id q : IdValue) (first : ℕ) (b : Bool) → id_eq q id ≡ b → f.id ≡ Some id
    → index_with id files ≡ Some first → index_with q (files ++ f ∷ []) ≡ index_with q files
known-step files f id q first true is has known =
    let same : q ≡ id = (id_decides q id).0 is in
    let found = subst (λ (i : IdValue). index_with i files ≡ Some first) (sym same) known in
    index-kept q files f first found ∙ sym found
known-step files f id q first false is has known =
    let other : has_id q f ≡ false = rw has is in
    index-other q files f other

-- an earlier file has its ID
pub firsts-known : (firsts : BTreeMap IdValue ℕ) (files : List FileLint) (f : FileLint) (id : IdValue) (first : ℕ) → f.id ≡ Some id
    → index_with id files ≡ Some first → AreFirsts firsts files → AreFirsts firsts (files ++ f ∷ [])
firsts-known firsts files f id first has known table q = table q ∙ sym (known-step files f id q first (id_eq q id) refl has known)

new-step : (files : List FileLint) (f : FileLint) (id q : IdValue) (o : Option ℕ) (b : Bool) → id_eq id q ≡ b → f.id ≡ Some id
    → index_with id files ≡ None → o ≡ index_with q files → cond b (Some (length files)) o ≡ index_with q (files ++ f ∷ [])
new-step files f id q o true is has none at =
    let same : id ≡ q = (id_decides id q).0 is in
    let nowhere : index_with q files ≡ None = subst (λ (i : IdValue). index_with i files ≡ None) same none in
    let here : has_id q f ≡ true = rw has ((id_decides q id).1 (sym same)) in
    sym (index-last q files f nowhere here)
new-step files f id q o false is has none at =
    let apart : id_eq q id ≡ false = false_from_ne_true (id_eq q id) (λ t. cc (sym is ∙ (id_decides id q).1 (sym ((id_decides q id).0 t)))) in
    let other : has_id q f ≡ false = rw has apart in
    at ∙ sym (index-other q files f other)

-- what the table has at the ID of a file
pub index-found : (l : BTreeMap IdValue ℕ) (files : List FileLint) (id key : IdValue) (o : Option ℕ) → key ≡ id → o ≡ tree.get id_order l key
    → AreFirsts l files → o ≡ index_with id files
index-found l files id key o same is table = is ∙ (ap (tree.get id_order l) same ∙ table id)

-- it is the first file with its ID
pub firsts-new : (m n : BTreeMap IdValue ℕ) (entries : List Entry) (f : FileLint) (id key : IdValue) (index : ℕ) → f.id ≡ Some id → key ≡ id
    → index ≡ length entries → None ≡ tree.get id_order m key → Updates id_order m n key (Some index) → AreFirsts m (map file_of entries)
    → AreFirsts n (map file_of entries ++ f ∷ [])
firsts-new m n entries f id key index has same is known updates table q =
    let files = map file_of entries in
    let at : index ≡ length files = is ∙ sym (length-map entries file_of) in
    let none = sym (index-found m files id key None same known table) in
    updates.0 q ∙ ((λ i. cond (sym (id_ties (same i) q) i) (Some (at i)) (tree.get id_order m q))
    ∙ new-step files f id q (tree.get id_order m q) (id_eq id q) refl has none (table q))

-- no earlier file has its ID
pub path-none : (l : BTreeMap IdValue ℕ) (files : List FileLint) (f : FileLint) (id key : IdValue) → f.id ≡ Some id → key ≡ id
    → None ≡ tree.get id_order l key → AreFirsts l files → None ≡ first_with f.id files
path-none l files f id key has same known table =
    let none = found-none id files (sym (index-found l files id key None same known table)) in
    sym (ap (λ i. first_with i files) has ∙ ap (option_map (λ (g : FileLint). g.path)) none)

path-of : (o : Option Entry) → option_map (λ (e : Entry). e.file.path) o ≡ option_map (λ (g : FileLint). g.path) (option_map file_of o)
path-of None = refl
path-of (Some e) = refl

-- the path of the first file with its ID
pub path-first : (l : BTreeMap IdValue ℕ) (entries : List Entry) (f : FileLint) (id key : IdValue) (first : ℕ) → f.id ≡ Some id → key ≡ id
    → Some first ≡ tree.get id_order l key → AreFirsts l (map file_of entries) → path_at entries first ≡ first_with f.id (map file_of entries)
path-first l entries f id key first has same known table =
    let files = map file_of entries in
    let found = found-some id files first (index-found l files id key (Some first) same known table) in
    let path = λ (g : FileLint). g.path in
    path-of (slice_get entries first) ∙ (ap (option_map path) (sym (slice_get-map file_of entries first) ∙ sym found) ∙ sym (ap (λ i. first_with i files) has))

back-step : (m : BTreeMap IdValue ℕ) (key q : IdValue) (first index : ℕ) (b : Bool) → id_eq key q ≡ b → tree.get id_order m key ≡ Some first
    → cond b (Some first) (cond b (Some index) (tree.get id_order m q)) ≡ tree.get id_order m q
back-step m key q first index true is known = sym known ∙ ap (tree.get id_order m) ((id_decides key q).0 is)
back-step m key q first index false is known = refl

-- an index was put in, and the first one was put back
put-back : (l m n : BTreeMap IdValue ℕ) (key again : IdValue) (index first : ℕ) → again ≡ key → tree.get id_order l key ≡ Some first
    → Updates id_order l m key (Some index) → Updates id_order m n again (Some first) → (q : IdValue) → tree.get id_order n q ≡ tree.get id_order l q
put-back l m n key again index first same known one two q =
    let middle = one.0 q ∙ ap (λ b. cond b (Some index) (tree.get id_order l q)) (sym (id_ties key q)) in
    two.0 q ∙ ((λ i. cond (sym (id_ties (same i) q) i) (Some first) (middle i)) ∙ back-step l key q first index (id_eq key q) refl known)

-- an earlier file has its ID, and the table has the index of that one again
pub firsts-kept : (l m n : BTreeMap IdValue ℕ) (files : List FileLint) (f : FileLint) (id key again : IdValue) (index first : ℕ) → f.id ≡ Some id
    → key ≡ id → again ≡ id → Some first ≡ tree.get id_order l key → Updates id_order l m key (Some index) → Updates id_order m n again (Some first)
    → AreFirsts l files → AreFirsts n (files ++ f ∷ [])
firsts-kept l m n files f id key again index first has same same_again known one two table q =
    let found = sym (index-found l files id key (Some first) same known table) in
    put-back l m n key again index first (same_again ∙ sym same) (sym known) one two q ∙ firsts-known l files f id first has found table q

pub no-firsts : (m : BTreeMap IdValue ℕ) → m.entries ≡ [] → AreFirsts m []
no-firsts m e q = rw e refl

-- ---- the entries after one more file

entries-more : (before files : List FileLint) (f : FileLint)
    → entries_after before (files ++ f ∷ []) ≡ entries_after before files ++ record { file = f; first = first_with f.id (before ++ files) } ∷ []
entries-more before [] f = λ i. record { file = f; first = first_with f.id (sym (append-nil before) i) } ∷ []
entries-more before (g ∷ files) f =
    ap (λ es. record { file = g; first = first_with g.id before } ∷ es)
    (entries-more (before ++ g ∷ []) files f
    ∙ (λ i. entries_after (before ++ g ∷ []) files ++ record { file = f; first = first_with f.id (append_assoc before (g ∷ []) files i) } ∷ []))

pub files-of : (before files : List FileLint) → map file_of (entries_after before files) ≡ files
files-of before [] = refl
files-of before (f ∷ files) = ap (λ fs. f ∷ fs) (files-of (before ++ f ∷ []) files)

-- ---- a loop over paths

-- the entries of the files at some paths, and the table of the first ones with each ID
abbrev pub AreSoFar : Allowed → List (List ℕ) → List Entry → BTreeMap IdValue ℕ → Type 0
AreSoFar allowed paths entries firsts =
    (files : List FileLint) × (Pairwise (IsLintAt allowed) paths files × ((entries ≡ entries_of files) × AreFirsts firsts files))

pub none-so-far : (allowed : Allowed) (paths : List (List ℕ)) (entries : List Entry) (m : BTreeMap IdValue ℕ) → entries ≡ [] → m.entries ≡ []
    → AreSoFar allowed (take 0 paths) entries m
none-so-far allowed paths entries m none empty = ([], (tt, (none, no-firsts m empty)))

pub lint-before : (a b : Allowed) (path : List ℕ) (f : FileLint) → AllowSame a b → IsLintAt b path f → IsLintAt a path f
lint-before a b path f same (of_text text read h) = of_text text ((same.reads path (Some text)).1 read) h
lint-before a b path f same (unread fails is) = unread ((same.reads path None).1 fails) is

-- the table is that of the entries' files
pub table-of : (allowed : Allowed) (paths : List (List ℕ)) (entries : List Entry) (m : BTreeMap IdValue ℕ) → AreSoFar allowed paths entries m
    → AreFirsts m (map file_of entries)
table-of allowed paths entries m (files, (each, (are, table))) = subst (AreFirsts m) (sym (ap (map file_of) are ∙ files-of [] files)) table

one-more : (allowed : Allowed) (paths more : List (List ℕ)) (f : FileLint) (files : List FileLint) (old new : List Entry) (n : BTreeMap IdValue ℕ)
    → Pairwise (IsLintAt allowed) more (files ++ f ∷ []) → old ≡ entries_of files → IsAdded f old new n → AreSoFar allowed more new n
one-more allowed paths more f files old new n each are added =
    let before : map file_of old ≡ files = ap (map file_of) are ∙ files-of [] files in (
      files ++ f ∷ [],
      (
        each,
        (
          added.entries
              ∙ ((λ i. are i ++ record { file = f; first = first_with f.id (before i) } ∷ []) ∙ sym (entries-more [] files f)),
          subst (λ (fs : List FileLint). AreFirsts n (fs ++ f ∷ [])) before added.firsts_are,
        ),
      ),
    )

-- one more path, after folders were asked that allow the same
pub linted-more : (a b : Allowed) (paths : List (List ℕ)) (i : ℕ) (item path : List ℕ) (old new : List Entry) (m n : BTreeMap IdValue ℕ)
    → AllowSame a b → i < length paths → item ≡ get_or paths i item → path ≡ item → AreSoFar a (take i paths) old m
    → (f : FileLint) × (IsLintAt b path f × IsAdded f old new n) → AreSoFar a (take (i + 1) paths) new n
linted-more a b paths i item path old new m n same low at is (files, (each, (are, table))) (f, (lint, added)) =
    let here = lint-before a b item f same (subst (λ (p : List ℕ). IsLintAt b p f) is lint) in
    one-more a (take i paths) (take (i + 1) paths) f files old new n (pairwise-step (IsLintAt a) paths files i item f low at each here) are added

pub all-linted : (allowed : Allowed) (paths : List (List ℕ)) (entries : List Entry) (m : BTreeMap IdValue ℕ) → AreSoFar allowed paths entries m
    → AreLintedAt allowed paths entries
all-linted allowed paths entries m (files, (each, (are, table))) = record { files = files; each = each; entries_are = are }

-- ---- paths that are listed under a root, and the remarks on the files there afterwards

pub entries-found : (a b : Allowed) (root : List ℕ) (paths items : List (List ℕ)) (entries : List Entry) → AllowSame a b → Paths a root (Some paths)
    → items ≡ paths → AreLintedAt b items entries → AreEntries a root entries
entries-found a b root paths items entries same found is h = (
  paths,
  (
    found,
    record {
      files = h.files;
      each =
          pairwise-weaker (IsLintAt b) (IsLintAt a) (λ path f. lint-before a b path f same) paths h.files
          (subst (λ (ps : List (List ℕ)). Pairwise (IsLintAt b) ps h.files) is h.each);
      entries_are = h.entries_are;
    },
  ),
)
