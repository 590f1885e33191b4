-- What an audit answers about one advisory: the verdict on each version, the ranges and the exported events; and which
-- advisories have an export.
use Rattle.std.specs.Prelude.{◌≡◌, ◌⊎◌, ◌++◌, ◌∷◌, All, Bool, List, None, Some, map}
use Rattle.semver.specs.Parse.{Parts}
use Rattle.rustsec_values.specs.Failure.{Failure}
use Rattle.rustsec_values.specs.declared.error.ErrorKind.{ErrorKind}
use Rattle.rustsec_values.specs.declared.error.ErrorKind.TheVariants as kind
use Rattle.rustsec_versions.specs.acceptance.Lists.{affected}
use Rattle.rustsec_versions.specs.order.Precedence.{IsVersion}
use Rattle.rustsec_versions.specs.ranges.AcceptedRanges.{AreMergedRanges, AreRangesOf, HasUnboundedInterval}
use Rattle.rustsec_versions.specs.ranges.Ranges.{Range}
use Rattle.rustsec_texts.specs.Ids.{IdValue}
use Rattle.rustsec_advisory.specs.declared.advisory.Advisory.{Advisory}
use Rattle.rustsec_osv.specs.DocumentEvents.{Event}
use Rattle.rustsec_osv.specs.Events.{events_of, events_say}
use Rattle.rustsec_osv.specs.References.{references_of}
use Rattle.rustsec_osv.specs.declared.reference.OsvReference.{OsvReference}

-- the answer about an advisory: its ID, a verdict for each version, the ranges and the events
pub record Answer : Type 0 where
  pub id : IdValue
  pub verdicts : List Bool
  pub ranges : List Range
  pub events : List Event

-- ---- the three ways to say which versions are affected

-- a version is called affected exactly if no interval of the advisory's requirements holds it
abbrev pub HasVerdicts : List Parts → Advisory → Answer → Type 0
HasVerdicts versions a x = x.verdicts ≡ map (affected a.versions) versions

-- the ranges are those between the merged intervals, and no other list is; a valid version is affected exactly if one of
-- them contains it
pub record HasRanges (a : Advisory) (x : Answer) : Type 0 where
  pub are : AreRangesOf a.versions x.ranges
  pub only : (ranges : List Range) → AreMergedRanges a.versions ranges → ranges ≡ x.ranges

-- the events are those of the ranges; they call a valid version affected exactly if no interval holds it (OSV schema,
-- `events`)
pub record HasEvents (a : Advisory) (x : Answer) : Type 0 where
  pub of_ranges : x.events ≡ events_of x.ranges
  pub agree : (v : Parts) → IsVersion v → events_say x.events v ≡ affected a.versions v

-- ---- exports

-- an advisory has an OSV document if no merged interval is unbounded on both sides, and its addresses are read
pub record HasExport (a : Advisory) : Type 0 where
  pub some : ¬ HasUnboundedInterval a.versions
  pub references : List OsvReference
  pub are_references : references_of a.metadata ≡ Some references

-- why an advisory has none, with the kind of the refusal
abbrev pub HasNoExport : Advisory → ErrorKind → Type 0
HasNoExport a k =
    ((k ≡ kind.BadParam) × HasUnboundedInterval a.versions)
    ⊎ ((k ≡ kind.Parse) × ((¬ HasUnboundedInterval a.versions) × (references_of a.metadata ≡ None)))

-- the refusal of the first of some advisories without an export
pub record IsFirstWithoutExport (advisories : List Advisory) (e : Failure) : Type 0 where
  pub good : List Advisory
  pub bad : Advisory
  pub rest : List Advisory
  pub advisories_are : advisories ≡ good ++ bad ∷ rest
  pub have_exports : All HasExport good
  pub fault : HasNoExport bad e.kind

-- ---- the answer

-- this is the answer about an advisory, which has an export
pub record IsAnswer (versions : List Parts) (a : Advisory) (x : Answer) : Type 0 where
  pub id : x.id ≡ a.metadata.id
  pub verdicts : HasVerdicts versions a x
  pub ranges : HasRanges a x
  pub events : HasEvents a x
  pub has_export : HasExport a
