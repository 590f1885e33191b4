-- What the page shows of a finding.
use Rattle.std.specs.Prelude.{◌≡◌, ◌==◌, ◌&&◌, ◌++◌, ℕ, Bool, if◌then◌else◌, List, [], ◌∷◌, Option, Some, None, is_none, length, map}
use Rattle.std.specs.List.{All, filter, flat_map, list_any}
use Rattle.semver.specs.Identifiers.{parts_text}
use Rattle.semver.specs.Parse.{Parts}
use Rattle.rustsec_versions.specs.ranges.AcceptedRanges.{AreRangesOf}
use Rattle.rustsec_versions.specs.ranges.Ranges.{Range}
use Rattle.rustsec_lock.specs.Package.{PackageValue}
use Rattle.rustsec_lock.specs.Score.{severity_text}
use Rattle.rustsec_lock.specs.declared.severity.Severity.{Severity}
use Rattle.rustsec_texts.specs.Ids.{IdValue}
use Rattle.rustsec_texts.specs.declared.warning_kind.WarningKind.{WarningKind}
use Rattle.rustsec_advisory.specs.declared.metadata.Metadata.{Metadata}
use Rattle.rustsec_check.specs.Values.{FindingValue}
use Rattle.rustsec_check_output.specs.CheckText.{rank_of, rank_place}
use Rattle.rustsec_check_output.specs.CheckTree.{kind_text, score_text, severity_of, tenths_of}
use Rattle.rustsec_page.specs.Lines.{line}
use Rattle.rustsec_page.specs.Links.{denied_tag, linked, linked_id, old_tag, package_words, path_rows}
use Rattle.rustsec_page.specs.Pieces.{Piece, card, content, item, section}
use Rattle.rustsec_page.specs.declared.section.Section.{Section}
use Rattle.rustsec_page.specs.declared.section.Section.TheVariants as kind
use Rattle.rustsec_page.specs.declared.card.Card.TheVariants as part
use Rattle.rustsec_page.specs.declared.item.Item.TheVariants as row

-- a finding, with the ranges of versions that its advisory affects
pub record DrawnValue : Type 0 where
  pub finding : FindingValue
  pub ranges : List Range

-- whether these are findings with the ranges of their advisories
pub record AreDrawn (findings : List FindingValue) (drawn : List DrawnValue) : Type 0 where
  pub findings_are : map (λ (d : DrawnValue). d.finding) drawn ≡ findings
  pub ranges_are : All (λ (d : DrawnValue). AreRangesOf d.finding.advisory.versions d.ranges) drawn

-- ---- title and facts

-- the ID of the advisory, and its title
unfoldable pub title : Metadata → List Piece
title m = card part.Start ∷ (linked_id m.id ++ (card part.TitleStart ∷ content m.title ∷ card part.TitleEnd ∷ []))

-- a rating and its score, which may be missing
abbrev pub rating : Option Severity → Option ℕ → List Piece
rating None tenths = []
rating (Some s) None = []
rating (Some s) (Some tenths) = card part.RatingStart ∷ content (severity_text s) ∷ card part.ScoreStart ∷ content (score_text tenths) ∷ []

-- whether a warning is denied; a vulnerability always is
abbrev pub denied : Option WarningKind → Bool → List Piece
denied None is_denied = []
denied (Some k) is_denied = denied_tag is_denied

-- what a finding is, and its rating
unfoldable pub kind_words : FindingValue → List Piece
kind_words f =
    card part.KindStart ∷ content (kind_text f.kind)
    ∷ (rating (severity_of f.advisory.metadata) (tenths_of f.advisory.metadata) ++ (card part.KindEnd ∷ []))

-- the package, what the finding is, whether it is denied and whether it is old
unfoldable pub facts : FindingValue → List Piece
facts f =
    package_words f.«package» ++ (kind_words f ++ (denied f.kind f.is_denied ++ (old_tag f.is_old ++ (card part.FactsEnd ∷ []))))

-- ---- how it is mended

-- the command that updates a package, if it is enough, else what keeps Cargo from the version
unfoldable pub command : PackageValue → List Piece
command p =
    card part.CommandStart ∷ content p.name ∷ card part.CommandAt ∷ content (parts_text p.version) ∷ card part.CommandEnd ∷ []

unfoldable pub incompatible : PackageValue → List Piece
incompatible p = card part.Incompatible ∷ content (parts_text p.version) ∷ card part.IncompatibleEnd ∷ []

abbrev pub how : PackageValue → Bool → List Piece
how p is_compatible = if is_compatible then command p else incompatible p

-- the version to update a package to
abbrev pub update : PackageValue → Option Parts → Bool → List Piece
update p None is_compatible = card part.NoUpdate ∷ []
update p (Some v) is_compatible = card part.UpdateStart ∷ content (parts_text v) ∷ how p is_compatible

-- the ignored advisories that the version to update to depends on, if any
unfoldable pub moved_id : IdValue → List Piece
moved_id id = card part.MovedId ∷ content id.text ∷ []

unfoldable pub moving : List IdValue → List Piece
moving ids = card part.MovedStart ∷ (flat_map moved_id ids ++ (card part.MovedEnd ∷ []))

abbrev pub moved : List IdValue → List Piece
moved ids = if length ids == 0 then [] else moving ids

unfoldable pub mended : FindingValue → List Piece
mended f = update f.«package» f.update.least_free f.update.is_compatible ++ moved f.update.moved_by

-- ---- the advisory

unfoldable pub description : Metadata → List Piece
description m = card part.DescriptionStart ∷ content m.description ∷ card part.DescriptionEnd ∷ []

-- an address, which links to itself
unfoldable pub address : List ℕ → List Piece
address a = item row.Start ∷ (linked a a ++ (item row.End ∷ []))

-- an address that may be missing
abbrev pub maybe_address : Option (List ℕ) → List Piece
maybe_address None = []
maybe_address (Some a) = address a

-- the addresses of an advisory: its announcement, and those with more information
unfoldable pub addresses : Metadata → List Piece
addresses m = card part.LinksStart ∷ (maybe_address m.url ++ (flat_map address m.references ++ (card part.LinksEnd ∷ [])))

abbrev pub has_none : Metadata → Bool
has_none m = is_none m.url && length m.references == 0

abbrev pub links : Metadata → List Piece
links m = if has_none m then [] else addresses m

-- ---- the whole

-- the line of versions of a finding
unfoldable pub line_of : DrawnValue → List Piece
line_of d = line d.ranges d.finding.«package».version d.finding.update.least_free

-- the advisory of a finding
unfoldable pub about : Metadata → List Piece
about m = description m ++ (links m ++ (card part.End ∷ []))

-- all of a finding, over the packages of the lockfile
unfoldable pub finding : List PackageValue → DrawnValue → List Piece
finding packages d =
    title d.finding.advisory.metadata ++ (facts d.finding ++ (line_of d ++ (mended d.finding
    ++ (path_rows packages d.finding.path ++ about d.finding.advisory.metadata))))

-- ---- by rank

-- whether a finding has the rank at a place among the ranks of the check's text
abbrev pub is_ranked : ℕ → DrawnValue → Bool
is_ranked place d = rank_place (rank_of d.finding) == place

-- the section of the findings of a rank, if any
unfoldable pub ranked : List PackageValue → List DrawnValue → ℕ → Section → List Piece
ranked packages drawn place s =
    section s ∷ (flat_map (finding packages) (filter (is_ranked place) drawn) ++ (section kind.SectionEnd ∷ []))

abbrev pub of_rank : List PackageValue → List DrawnValue → ℕ → Section → List Piece
of_rank packages drawn place s = if list_any (is_ranked place) drawn then ranked packages drawn place s else []

-- all findings, the most severe rank first
unfoldable pub by_rank : List PackageValue → List DrawnValue → List Piece
by_rank packages drawn =
    of_rank packages drawn 0 kind.Critical ++ (of_rank packages drawn 1 kind.High ++ (of_rank packages drawn 2 kind.Medium
    ++ (of_rank packages drawn 3 kind.Low ++ (of_rank packages drawn 4 kind.Harmless ++ (of_rank packages drawn 5 kind.Unrated
    ++ of_rank packages drawn 6 kind.Warning)))))
