-- A database as OSV documents, a line of JSON each.
use Rattle.std.specs.Prelude.{◌≡◌, ◌⊎◌, ◌&&◌, ℕ, Bool, true, false, List, [], None, if◌then◌else◌, is_some}
use Rattle.std.specs.List.{flat_map, list_any}
use Rattle.rustsec_files.specs.Listed.{Pairwise}
use Rattle.rustsec_versions.specs.ranges.AcceptedRanges.{HasUnboundedInterval}
use Rattle.rustsec_advisory.specs.declared.advisory.Advisory.{Advisory}
use Rattle.rustsec_osv.specs.Documents.{Document}
use Rattle.rustsec_osv.specs.Export.{IsDocument}
use Rattle.rustsec_osv.specs.References.{references_of}
use Rattle.rustsec_osv.specs.DocumentCodec.{document_tree}
use Rattle.rustsec_osv_rules.specs.evaluation.Pairs.{normalized_document}
use Rattle.rustsec_json.specs.Lines.{tree_line}
use Rattle.rustsec_osv_database.specs.declared.exported.Choice.{Choice}

-- whether an advisory is left out: a withdrawn one, if so chosen
abbrev pub is_left_out : Choice → Advisory → Bool
is_left_out c a = c.skip_withdrawn && is_some a.metadata.withdrawn

-- the document that is written: without pairs of neighbouring events at one version, if so chosen
abbrev pub chosen : Choice → Document → Document
chosen c d = if c.normalized then normalized_document d else d

-- an advisory has no document: its requirements leave no range, or the address of a page is not a URL
abbrev pub HasNoDocument : Advisory → Type 0
HasNoDocument a = HasUnboundedInterval a.versions ⊎ (references_of a.metadata ≡ None)

-- what is written of an advisory
pub record Part : Type 0 where
  -- its line, or nothing
  pub line : List ℕ
  -- whether it has no document, though it is not left out
  pub missing : Bool

-- what is written of an advisory, with the time at which its document was last changed: its document's tree, or nothing if it is left out or
-- has no document
pub data IsPart (c : Choice) (modified : List ℕ) (a : Advisory) (p : Part) : Type 0 where
  left_out : is_left_out c a ≡ true → p ≡ record { line = []; missing = false } → IsPart c modified a p
  exported : (d : Document) → is_left_out c a ≡ false → IsDocument a modified d
      → p ≡ record { line = tree_line (document_tree (chosen c d)); missing = false } → IsPart c modified a p
  without : is_left_out c a ≡ false → HasNoDocument a → p ≡ record { line = []; missing = true } → IsPart c modified a p

-- what is written of some advisories, in their order: a text, and whether one of them has no document
abbrev pub AreParts : Choice → List ℕ → List Advisory → List ℕ → Bool → Type 0
AreParts c modified advisories text missing =
    (parts : List Part) × (Pairwise (IsPart c modified) advisories parts
    × (text ≡ flat_map (λ (p : Part). p.line) parts) × (missing ≡ list_any (λ (p : Part). p.missing) parts))
