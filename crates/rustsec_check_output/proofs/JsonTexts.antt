-- What is written as JSON is the text of the tree.
use Rattle.std.proofs.Common.{◌≡◌, ◌∙◌, ◌++◌, ℕ, Bool, true, false, List, [], ◌∷◌, Option, None, Some, ap, append_assoc, map, refl, sym}
use Rattle.std.specs.Prelude.{codes, length}
use Rattle.std.specs.Fmt.{decimal}
use Rattle.semver.specs.Identifiers.{parts_text}
use Rattle.semver.specs.Parse.{Held, Parts}
use Rattle.serde_json.specs.Data.{Data, boolean, string}
use Rattle.serde_json.specs.View.{items_of}
use Rattle.serde_json.specs.Written.{compact_text, items_text}
use Rattle.serde_json.proofs.OnLiterals.{serde_json_on_literals}
use Rattle.rustsec_values.specs.Failure as failure
use Rattle.rustsec_values.specs.declared.error.ErrorKind.{ErrorKind}
use Rattle.rustsec_json.specs.Trees.{list_tree, optional_tree, text_tree}
use Rattle.rustsec_versions.specs.acceptance.Lists.{Lists}
use Rattle.rustsec_versions.specs.requirement.RequirementText.{requirement_text}
use Rattle.rustsec_lock.specs.Cvss.{cvss_text}
use Rattle.rustsec_lock.specs.Package.{PackageValue}
use Rattle.rustsec_lock.specs.Score.{severity_text}
use Rattle.rustsec_lock.specs.Source.{Source, source_text}
use Rattle.rustsec_lock.specs.declared.cvss.Cvss.{Cvss}
use Rattle.rustsec_lock.specs.declared.severity.Severity.{Severity}
use Rattle.rustsec_texts.specs.Ids.{IdValue}
use Rattle.rustsec_advisory.specs.declared.advisory.Advisory.{Advisory}
use Rattle.rustsec_advisory.specs.declared.metadata.Metadata.{Metadata}
use Rattle.rustsec_report.specs.Trees.{ids_tree, requirements_tree, severity_tree, versions_tree, with_members}
use Rattle.rustsec_policy.specs.Entries.{entry_with}
use Rattle.rustsec_policy.specs.declared.ignored.Ignored.{Ignored}
use Rattle.rustsec_check.specs.Updates.{UpdateValue}
use Rattle.rustsec_check.specs.Values.{FindingValue, IgnoredValue, YankedValue}
use Rattle.rustsec_check_output.specs.JsonParts.{first_json, key_json}
use Rattle.rustsec_check_output.specs.declared.part.First.TheVariants as first
use Rattle.rustsec_check_output.specs.declared.part.Key.TheVariants as key
use Rattle.rustsec_check_output.specs.CheckTree.{DatedValue, WrittenValue, advisory_entries, advisory_tree, check_entries, check_tree, command, database_tree, finding_entries, finding_tree, ignored_tree, kind_text, many_tree, named_tree, packages_at, places_tree, reason_of, refused_tree, score_text, severity_of, sourced_tree, tenths_of, until_of, update_tree, yanked_tree}
use Rattle.rustsec_json.specs.Lines.{tree_line}
use Rattle.rustsec_check_output.specs.CheckJson.{named_rating_json, dated_json, moved_json, mended_json, yanked_there_json, reasons_json, listed_json, unneeded_json, advisory_json, boolean_json, check_json, command_json, cvss_json, database_json, database_pieces, entry_json, finding_json, found_json, found_pieces, ids_json, ignored_json, ignored_pieces, later_json, list_json, lockfile_json, looked_at_json, looked_at_pieces, many_json, named_json, optional_json, pair_json, pair_pieces, path_json, places_json, quoted, rating_json, rating_pieces, refused_json, requirements_json, said_json, said_pieces, score_json, severity_json, source_json, sourced_json, sourced_pieces, subject_json, subject_pieces, update_json, update_pieces, versions_json, versions_pieces, yanked_json, yanked_pieces}

-- ---- values

boolean-is : (b : Bool) → compact_text (boolean b) ≡ boolean_json b
boolean-is true = refl
boolean-is false = refl

module _ {A : Type 0} where
  optional-is : (tree : A → Data) (json : A → List ℕ) → ((x : A) → compact_text (tree x) ≡ json x) → (o : Option A)
      → compact_text (optional_tree tree o) ≡ optional_json json o
  optional-is tree json h None = refl
  optional-is tree json h (Some x) = h x

  later-is : (tree : A → Data) (json : A → List ℕ) → ((x : A) → compact_text (tree x) ≡ json x) → (xs : List A)
      → items_text true (items_of (map tree xs)) ≡ later_json json xs ++ codes "]"
  later-is tree json h [] = refl
  later-is tree json h (x ∷ xs) =
      let rest = later-is tree json h xs in
      let one : codes "," ++ (compact_text (tree x) ++ items_text true (items_of (map tree xs))) ≡ codes "," ++ (json x ++ (later_json json xs ++ codes "]")) =
      λ i. codes "," ++ (h x i ++ rest i) in
      one ∙ ap (λ t. codes "," ++ t) (sym (append_assoc (json x) (later_json json xs) (codes "]")))

  list-is : (tree : A → Data) (json : A → List ℕ) → ((x : A) → compact_text (tree x) ≡ json x) → (xs : List A)
      → compact_text (list_tree tree xs) ≡ list_json json xs
  list-is tree json h [] = refl
  list-is tree json h (x ∷ xs) = λ i. codes "[" ++ (h x i ++ later-is tree json h xs i)

ids-is : (ids : List IdValue) → compact_text (ids_tree ids) ≡ ids_json ids
unfolding quoted
ids-is ids = list-is (λ (i : IdValue). string i.text) (λ (i : IdValue). quoted i.text) (λ i. refl) ids

texts-is : (texts : List (List ℕ)) → compact_text (list_tree text_tree texts) ≡ list_json quoted texts
unfolding quoted
texts-is texts = list-is text_tree quoted (λ t. refl) texts

text-is : (o : Option (List ℕ)) → compact_text (optional_tree text_tree o) ≡ optional_json quoted o
unfolding quoted
text-is o = optional-is text_tree quoted (λ t. refl) o

-- ---- packages

named-is : (p : PackageValue) → compact_text (named_tree p) ≡ named_json p
unfolding named_json quoted with_members first_json key_json serde_json_on_literals
named-is p = refl

source-is : (s : Option Source) → compact_text (optional_tree (λ x. string (source_text x)) s) ≡ source_json s
unfolding quoted
source-is s = optional-is (λ x. string (source_text x)) (λ x. quoted (source_text x)) (λ x. refl) s

sourced-is : (p : PackageValue) → compact_text (sourced_tree p) ≡ sourced_json p
unfolding sourced_json quoted with_members first_json key_json serde_json_on_literals
sourced-is p = λ i. sourced_pieces (quoted p.name) (source-is p.source i) (quoted (parts_text p.version))

places-is : (packages : List PackageValue) (places : List ℕ) → compact_text (places_tree packages places) ≡ places_json packages places
places-is packages places = list-is named_tree named_json named-is (packages_at packages places)

path-is : (packages : List PackageValue) (path : Option (List ℕ)) → compact_text (optional_tree (places_tree packages) path) ≡ path_json packages path
path-is packages path = optional-is (places_tree packages) (places_json packages) (places-is packages) path

-- ---- two parts of an object

four : (k a l b m c n d r : List ℕ) → (k ++ (a ++ (l ++ (b ++ (m ++ (c ++ (n ++ d))))))) ++ r ≡ k ++ (a ++ (l ++ (b ++ (m ++ (c ++ (n ++ (d ++ r)))))))
four k a l b m c n d r = simp append_assoc

-- ---- advisories

cvss-is : (c : Option Cvss) → compact_text (optional_tree (λ x. string (cvss_text x)) c) ≡ cvss_json c
unfolding quoted
cvss-is c = optional-is (λ x. string (cvss_text x)) (λ x. quoted (cvss_text x)) (λ x. refl) c

score-is : (t : Option ℕ) → compact_text (optional_tree (λ x. string (score_text x)) t) ≡ score_json t
unfolding quoted
score-is t = optional-is (λ x. string (score_text x)) (λ x. quoted (score_text x)) (λ x. refl) t

severity-is : (s : Option Severity) → compact_text (optional_tree severity_tree s) ≡ severity_json s
unfolding quoted
severity-is s = optional-is severity_tree (λ x. quoted (severity_text x)) (λ x. refl) s

url-is : (u : Option (List ℕ)) → compact_text (optional_tree (λ x. string x) u) ≡ optional_json quoted u
unfolding quoted
url-is u = optional-is (λ x. string x) quoted (λ x. refl) u

abbrev subject_then : List ℕ → List ℕ → List ℕ → List ℕ → List ℕ → List ℕ
subject_then aliases cvss date id rest =
    first_json first.Aliases ++ (aliases ++ (key_json key.Cvss ++ (cvss ++ (key_json key.Date ++ (date ++ (key_json key.Id ++ (id ++ rest)))))))

subject-then : (aliases cvss date id rest : List ℕ) → subject_pieces aliases cvss date id ++ rest ≡ subject_then aliases cvss date id rest
subject-then aliases cvss date id rest = four (first_json first.Aliases) aliases (key_json key.Cvss) cvss (key_json key.Date) date (key_json key.Id) id rest

advisory-is : (m : Metadata) → compact_text (advisory_tree m) ≡ advisory_json m
unfolding advisory_tree advisory_entries advisory_json subject_json dated_json rating_json named_rating_json quoted with_members first_json key_json serde_json_on_literals
advisory-is m =
    let pieces : compact_text (advisory_tree m) ≡ subject_then (ids_json m.aliases) (cvss_json m.cvss) (quoted m.date) (quoted m.id.text) (rating_json m) =
    λ i. subject_then (ids-is m.aliases i) (cvss-is m.cvss i) (quoted m.date) (quoted m.id.text)
    (rating_pieces (score-is (tenths_of m) i) (severity-is (severity_of m) i) (quoted m.title) (url-is m.url i)) in
    pieces ∙ sym (subject-then (ids_json m.aliases) (cvss_json m.cvss) (quoted m.date) (quoted m.id.text) (rating_json m))

-- ---- findings

requirements-is : (rs : List (List Held)) → compact_text (requirements_tree rs) ≡ requirements_json rs
unfolding quoted
requirements-is rs = list-is (λ r. string (requirement_text r)) (λ r. quoted (requirement_text r)) (λ r. refl) rs

versions-is : (v : Lists) → compact_text (versions_tree v) ≡ versions_json v
unfolding versions_json with_members first_json key_json serde_json_on_literals
versions-is v = λ i. versions_pieces (requirements-is v.patched i) (requirements-is v.unaffected i)

command-is : (p : PackageValue) → compact_text (list_tree text_tree (command p)) ≡ command_json p
unfolding command_json quoted first_json key_json serde_json_on_literals
command-is p = refl

least-is : (v : Option Parts) → compact_text (optional_tree (λ x. string (parts_text x)) v) ≡ optional_json (λ x. quoted (parts_text x)) v
unfolding quoted
least-is v = optional-is (λ x. string (parts_text x)) (λ x. quoted (parts_text x)) (λ x. refl) v

update-is : (p : PackageValue) (u : UpdateValue) → compact_text (update_tree p u) ≡ update_json p u
unfolding update_json moved_json with_members first_json key_json serde_json_on_literals
update-is p u = λ i. update_pieces (command-is p i) (boolean-is u.is_compatible i) (ids-is u.moved_by i) (least-is u.least_free i)

abbrev pair_then : List ℕ → List ℕ → List ℕ → List ℕ → List ℕ → List ℕ
pair_then advisory denied dependents kind rest =
    first_json first.Advisory ++ (advisory ++ (key_json key.Denied ++ (denied ++ (key_json key.Dependents ++ (dependents ++ (key_json key.Kind ++ (kind ++ rest)))))))

pair-then : (advisory denied dependents kind rest : List ℕ) → pair_pieces advisory denied dependents kind ++ rest ≡ pair_then advisory denied dependents kind rest
pair-then advisory denied dependents kind rest =
    four (first_json first.Advisory) advisory (key_json key.Denied) denied (key_json key.Dependents) dependents (key_json key.Kind) kind rest

finding-is : (packages : List PackageValue) (f : FindingValue) → compact_text (finding_tree packages f) ≡ finding_json packages f
unfolding finding_tree finding_entries finding_json pair_json said_json mended_json quoted with_members first_json key_json serde_json_on_literals
finding-is packages f =
    let advisory = advisory_json f.advisory.metadata in
    let denied = boolean_json f.is_denied in
    let dependents = places_json packages f.dependents in
    let pieces : compact_text (finding_tree packages f) ≡ pair_then advisory denied dependents (quoted (kind_text f.kind)) (said_json packages f) =
    λ i. pair_then (advisory-is f.advisory.metadata i) (boolean-is f.is_denied i) (places-is packages f.dependents i) (quoted (kind_text f.kind))
    (said_pieces (boolean-is f.is_old i) (sourced-is f.«package» i) (path-is packages f.path i) (update-is f.«package» f.update i) (versions-is f.advisory.versions i)) in
    pieces ∙ sym (pair-then advisory denied dependents (quoted (kind_text f.kind)) (said_json packages f))

findings-is : (packages : List PackageValue) (fs : List FindingValue) → compact_text (list_tree (finding_tree packages) fs) ≡ list_json (finding_json packages) fs
findings-is packages fs = list-is (finding_tree packages) (finding_json packages) (finding-is packages) fs

-- ---- yanked packages

yanked-is : (packages : List PackageValue) (y : YankedValue) → compact_text (yanked_tree packages y) ≡ yanked_json packages y
unfolding yanked_tree yanked_json yanked_there_json with_members first_json key_json serde_json_on_literals
yanked-is packages y = λ i. yanked_pieces (boolean-is y.is_denied i) (places-is packages y.dependents i) (boolean-is y.is_old i) (sourced-is y.«package» i) (path-is packages y.path i)

all-yanked-is : (packages : List PackageValue) (ys : Option (List YankedValue))
    → compact_text (optional_tree (list_tree (yanked_tree packages)) ys) ≡ optional_json (list_json (yanked_json packages)) ys
all-yanked-is packages ys =
    optional-is (list_tree (yanked_tree packages)) (list_json (yanked_json packages)) (list-is (yanked_tree packages) (yanked_json packages) (yanked-is packages)) ys

-- ---- ignored pairs

ignored-is : (entries : List Ignored) (p : IgnoredValue) → compact_text (ignored_tree entries p) ≡ ignored_json entries p
unfolding ignored_tree ignored_json entry_json reasons_json quoted with_members first_json key_json serde_json_on_literals
ignored-is entries p =
    let entry = entry_with entries p.advisory.metadata.id in
    λ i. ignored_pieces (quoted p.advisory.metadata.id.text) (quoted (kind_text p.kind)) (sourced-is p.«package» i) (text-is (reason_of entry) i) (text-is (until_of entry) i)

all-ignored-is : (entries : List Ignored) (ps : List IgnoredValue) → compact_text (list_tree (ignored_tree entries) ps) ≡ list_json (ignored_json entries) ps
all-ignored-is entries ps = list-is (ignored_tree entries) (ignored_json entries) (ignored-is entries) ps

-- ---- the check

database-is : (d : DatedValue) → compact_text (database_tree d) ≡ database_json d
unfolding database_json with_members first_json key_json serde_json_on_literals
database-is d = λ i. database_pieces (decimal d.count) (text-is d.last_date i)

abbrev found_then : List ℕ → List ℕ → List ℕ → List ℕ → List ℕ → List ℕ
found_then below database findings ignored rest =
    first_json first.BelowThreshold ++ (below ++ (key_json key.Database ++ (database ++ (key_json key.Findings ++ (findings ++ (key_json key.Ignored ++ (ignored ++ rest)))))))

found-then : (below database findings ignored rest : List ℕ) → found_pieces below database findings ignored ++ rest ≡ found_then below database findings ignored rest
found-then below database findings ignored rest =
    four (first_json first.BelowThreshold) below (key_json key.Database) database (key_json key.Findings) findings (key_json key.Ignored) ignored rest

pub check_is : (w : WrittenValue) → compact_text (check_tree w) ≡ check_json w
unfolding check_tree check_entries check_json found_json listed_json looked_at_json unneeded_json lockfile_json with_members first_json key_json serde_json_on_literals
check_is w =
    let below = decimal w.check.below_threshold in
    let database = database_json w.database in
    let findings = list_json (finding_json w.packages) w.check.findings in
    let ignored = list_json (ignored_json w.entries) w.check.ignored in
    let pieces : compact_text (check_tree w) ≡ found_then below database findings ignored (looked_at_json w) =
    λ i. found_then below (database-is w.database i) (findings-is w.packages w.check.findings i) (all-ignored-is w.entries w.check.ignored i)
    (looked_at_pieces (lockfile_json (length w.packages)) (texts-is w.notes i) (ids-is w.check.unknown i) (ids-is w.check.unused i) (all-yanked-is w.packages w.yanked i)) in
    pieces ∙ sym (found-then below database findings ignored (looked_at_json w))

-- ---- lines

two : (k a l b m r : List ℕ) → (k ++ (a ++ (l ++ (b ++ m)))) ++ r ≡ k ++ (a ++ (l ++ (b ++ (m ++ r))))
two k a l b m r = simp append_assoc

pub many_is : (path : List ℕ) (w : WrittenValue) → many_json path w ≡ tree_line (many_tree path (check_tree w))
unfolding many_json quoted with_members first_json key_json serde_json_on_literals
many_is path w =
    let check = check_json w in
    sym (ap (λ t. (first_json first.Check ++ (t ++ (key_json key.Lockfile ++ (quoted path ++ codes "}")))) ++ codes "\n") (check_is w)
    ∙ two (first_json first.Check) check (key_json key.Lockfile) (quoted path) (codes "}") (codes "\n"))

pub refused_is : (path : List ℕ) (kind : ErrorKind) → refused_json path kind ≡ tree_line (refused_tree path kind)
unfolding refused_json quoted with_members first_json key_json serde_json_on_literals
refused_is path kind = sym (two (first_json first.Lockfile) (quoted path) (key_json key.Refused) (quoted (failure.kind_text kind)) (codes "}") (codes "\n"))
