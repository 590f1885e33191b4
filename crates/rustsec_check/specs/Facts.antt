-- What the findings about one package share, which only helps proofs.
use Rattle.std.specs.Prelude.{◌≡◌, ℕ, Bool, List, Option, None, Some, slice_get}
use Rattle.std.specs.List.{All}
use Rattle.rustsec_versions.specs.order.Precedence.{IsVersion}
use Rattle.rustsec_lock.specs.Package.{PackageValue}
use Rattle.rustsec_graph.specs.Edges.{dependents}
use Rattle.rustsec_graph.specs.Paths.{IsAnswer}
use Rattle.rustsec_check.specs.Findings.{is_old}
use Rattle.rustsec_check.specs.Updates.{AdviceValue, IsAdvice, counting}
use Rattle.rustsec_check.specs.Values.{Found, SubjectValue}

-- a package at its place, and what its findings share
pub record FactsValue : Type 0 where
  pub «package» : PackageValue
  pub place : ℕ
  pub is_old : Bool
  pub path : Option (List ℕ)
  pub dependents : List ℕ
  pub advice : AdviceValue

-- whether facts are those of a subject
pub record AreFacts (s : SubjectValue) (f : FactsValue) : Type 0 where
  pub at : slice_get s.packages f.place ≡ Some f.«package»
  pub is_old : f.is_old ≡ is_old s.baseline f.«package»
  pub path : IsAnswer s.graph.edges s.graph.roots f.place f.path
  pub dependents : f.dependents ≡ dependents s.graph.edges f.place
  pub ids : f.advice.counted.ids ≡ s.settings.ignore
  pub others : f.advice.counted.others ≡ counting s.advisories f.«package»
  pub advice : IsVersion f.«package».version → IsAdvice f.«package» f.advice

-- likewise for the facts about the last package, if there was one
abbrev pub AreLast : SubjectValue → Option FactsValue → Type 0
AreLast s None = Unit {0}
AreLast s (Some f) = AreFacts s f

-- facts about the package of a pair
pub record AreAbout (f : FactsValue) (pair : Found) : Type 0 where
  pub «package» : f.«package» ≡ pair.«package»
  pub place : f.place ≡ pair.place

-- pairs whose packages are at their places
abbrev pub IsPlaced : List PackageValue → Found → Type 0
IsPlaced packages pair = slice_get packages pair.place ≡ Some pair.«package»

abbrev pub ArePlaced : List PackageValue → List Found → Type 0
ArePlaced packages pairs = All (IsPlaced packages) pairs
