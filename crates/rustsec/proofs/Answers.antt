-- The answers about advisories: of one, and of some.
use Rattle.std.proofs.Common.{◌≡◌, ◌∙◌, ◌⊎◌, ◌++◌, ℕ, All, List, [], ◌∷◌, map, refl, ap, inl, inr}
use Rattle.std.specs.Prelude.{None}
use Rattle.std.proofs.lemmas.List.Elements.{All-cons, All-nil}
use Rattle.std.proofs.lemmas.List.Sorted.{IsPermutation-refl}
use Rattle.semver.specs.Parse.{Parts}
use Rattle.rustsec_values.specs.Failure.{Failure, IsMemory, IsRefusal}
use Rattle.rustsec_values.specs.declared.error.ErrorKind.TheVariants as kind
use Rattle.rustsec_versions.specs.acceptance.Lists.{Lists}
use Rattle.rustsec_versions.specs.ranges.AcceptedRanges.{AreMergedRanges, HasUnboundedInterval}
use Rattle.rustsec_versions.specs.ranges.Ranges.{Range, SameRequirements}
use Rattle.rustsec_files.proofs.Lists.{pairwise-weaker}
use Rattle.rustsec_files.specs.Listed.{Pairwise}
use Rattle.rustsec_files.specs.declared.source_file.SourceFile.{SourceFile}
use Rattle.rustsec_advisory.specs.declared.advisory.Advisory.{Advisory}
use Rattle.rustsec_database.specs.Loaded.{AreLoaded}
use Rattle.rustsec_osv.specs.Documents.{Document}
use Rattle.rustsec_osv.specs.Events.{events_of}
use Rattle.rustsec_osv.specs.Export.{IsDocument, document_events}
use Rattle.rustsec_osv.specs.References.{references_of}
use Rattle.rustsec_osv.proofs.Exported.{document-events}
use Rattle.rustsec.specs.Answers.{Answer, HasExport, HasNoExport, IsAnswer, IsFirstWithoutExport}
use Rattle.rustsec.specs.Audits.{EachHas}

-- the events of an advisory's document are those of the ranges of its requirements
pub events-of-ranges : (a : Advisory) (modified : List ℕ) (d : Document) (ranges : List Range) → IsDocument a modified d
    → ((ls : Lists) (rs : List Range) → SameRequirements a.versions ls → AreMergedRanges ls rs → rs ≡ ranges) → document_events d ≡ events_of ranges
events-of-ranges a modified d ranges h order =
    let same = order a.versions h.is_range.ranges (IsPermutation-refl _) h.is_range.are_ranges in
    ap document_events h.is ∙ document-events a.metadata a.affected modified h.references h.range ∙ h.is_range.events ∙ ap events_of same

pub exported : (a : Advisory) (modified : List ℕ) (d : Document) → IsDocument a modified d → HasExport a
exported a modified d h = record { some = h.is_range.some; references = h.references; are_references = h.are_references }

pub not-exported : (a : Advisory) (e : Failure)
    → IsRefusal kind.BadParam (HasUnboundedInterval a.versions) e
    ⊎ IsRefusal kind.Parse ((¬ HasUnboundedInterval a.versions) × (references_of a.metadata ≡ None)) e
    → HasNoExport a e.kind ⊎ IsMemory e
not-exported a e (inl (inl bad)) = inl (inl bad)
not-exported a e (inl (inr memory)) = inr memory
not-exported a e (inr (inl parse)) = inl (inr parse)
not-exported a e (inr (inr memory)) = inr memory

module _ (versions : List Parts) where
  -- the answers have the IDs of the advisories
  pub ids-in-order : (advisories : List Advisory) (answers : List Answer) → Pairwise (IsAnswer versions) advisories answers
      → map (λ (x : Answer). x.id) answers ≡ map (λ (a : Advisory). a.metadata.id) advisories
  ids-in-order [] [] h = refl
  ids-in-order [] (x ∷ xs) h = absurd h
  ids-in-order (a ∷ advisories) [] h = absurd h
  ids-in-order (a ∷ advisories) (x ∷ xs) h =
      let rest = ids-in-order advisories xs h.1 in
      λ i. h.0.id i ∷ rest i

  -- each answer about the advisories of files has what answers have
  pub each-has : (R : Advisory → Answer → Type 0) → ((a : Advisory) (x : Answer) → IsAnswer versions a x → R a x) → (files : List SourceFile)
      (advisories : List Advisory) (answers : List Answer) → AreLoaded files advisories → Pairwise (IsAnswer versions) advisories answers
      → EachHas R files answers
  each-has R has files advisories answers loaded h = (advisories, loaded, pairwise-weaker (IsAnswer versions) R has advisories answers h)

  -- each advisory with an answer has an export
  pub have-exports : (advisories : List Advisory) (answers : List Answer) → Pairwise (IsAnswer versions) advisories answers → All HasExport advisories
  have-exports [] [] h = All-nil HasExport
  have-exports [] (x ∷ xs) h = absurd h
  have-exports (a ∷ advisories) [] h = absurd h
  have-exports (a ∷ advisories) (x ∷ xs) h = All-cons HasExport a advisories h.0.has_export (have-exports advisories xs h.1)

  -- an advisory without an export, after others with answers, is the first one
  pub first-without : (all good : List Advisory) (bad : Advisory) (rest : List Advisory) (answers : List Answer) (e : Failure) → all ≡ good ++ bad ∷ rest
      → Pairwise (IsAnswer versions) good answers → HasNoExport bad e.kind ⊎ IsMemory e → IsFirstWithoutExport all e ⊎ IsMemory e
  first-without all good bad rest answers e are h (inl none) =
      inl (record { good = good; bad = bad; rest = rest; advisories_are = are; have_exports = have-exports good answers h; fault = none })
  first-without all good bad rest answers e are h (inr memory) = inr memory
