-- Whether a document calls a version of a package affected (OSV schema, "Evaluation"). It carries meaning: public contracts cite it.
use Rattle.std.specs.Prelude.{◌≡◌, ◌&&◌, ◌||◌, ℕ, Bool, List, [], codes, false, map, not, true, unwrap_or}
use Rattle.std.specs.List.{filter, list_any}
use Rattle.std.specs.Str.{bytes_eq}
use Rattle.semver.specs.Identifiers.{parts_text}
use Rattle.semver.specs.Parse.{Parts}
use Rattle.rustsec_files.specs.Listed.{Pairwise}
use Rattle.rustsec_osv.specs.DocumentEvents.{JsonRange}
use Rattle.rustsec_osv.specs.Documents.{Document}
use Rattle.rustsec_osv.specs.declared.affected.OsvAffected.{OsvAffected}
use Rattle.rustsec_osv_rules.specs.evaluation.Event.{seen}
use Rattle.rustsec_osv_rules.specs.evaluation.Range.{IsRangeAnswer, say_in_order}

-- whether one of some answers is yes
abbrev pub are_any : List Bool → Bool
are_any answers = list_any (λ b. b) answers

-- ---- ranges

-- whether the events of a range are at versions of packages, not at commits
abbrev pub is_of_versions : JsonRange → Bool
is_of_versions r = not (bytes_eq r.kind (codes "GIT"))

-- an answer of a range: that of its events, or no if they are at commits
pub record IsRangeOfAnswer (v : Parts) (r : JsonRange) (answer : Bool) : Type 0 where
  pub versions : is_of_versions r ≡ true → IsRangeAnswer (map seen r.events) v answer
  pub commits : is_of_versions r ≡ false → answer ≡ false

-- ---- members

abbrev pub ranges_of : OsvAffected → List JsonRange
ranges_of a = unwrap_or a.ranges []

abbrev pub texts_of : OsvAffected → List (List ℕ)
texts_of a = unwrap_or a.versions []

abbrev pub is_text : List ℕ → List ℕ → Bool
is_text text version = bytes_eq version text

-- whether a member lists a version with this text
abbrev pub lists : List ℕ → OsvAffected → Bool
lists text a = list_any (is_text text) (texts_of a)

-- an answer of a member: yes if it lists the version, or if the answer of one of its ranges is yes
pub record IsMemberAnswer (v : Parts) (a : OsvAffected) (answer : Bool) : Type 0 where
  pub answers : List Bool
  pub each : Pairwise (IsRangeOfAnswer v) (ranges_of a) answers
  pub is : answer ≡ (lists (parts_text v) a || are_any answers)

-- ---- documents

-- whether a member is about a package
abbrev pub is_about : List ℕ → List ℕ → OsvAffected → Bool
is_about ecosystem name a = bytes_eq a.«package».ecosystem ecosystem && bytes_eq a.«package».name name

-- an answer of a document: yes if the answer of one of its members about the package is yes
pub record IsAnswer (ecosystem name : List ℕ) (v : Parts) (d : Document) (answer : Bool) : Type 0 where
  pub answers : List Bool
  pub each : Pairwise (IsMemberAnswer v) (filter (is_about ecosystem name) d.affected) answers
  pub is : answer ≡ are_any answers

-- ---- the answer with the events of each range in the order in which they are given

-- a document's events have no limits
abbrev pub range_says_as_given : Parts → JsonRange → Bool
range_says_as_given v r = is_of_versions r && say_in_order (map seen r.events) v

abbrev pub member_says_as_given : Parts → OsvAffected → Bool
member_says_as_given v a = lists (parts_text v) a || list_any (range_says_as_given v) (ranges_of a)

abbrev pub says_as_given : List ℕ → List ℕ → Parts → Document → Bool
says_as_given ecosystem name v d = list_any (member_says_as_given v) (filter (is_about ecosystem name) d.affected)
