-- What the command `osv` writes for the file at a path and the time of its last change.
use Rattle.std.specs.Prelude.{◌≡◌, ◌≢◌, ◌⊎◌, ℕ, List, None}
use Rattle.rustsec_files.specs.Allowed.{Allowed}
use Rattle.rustsec_values.specs.Failure.{Failure, IsRefusal}
use Rattle.rustsec_values.specs.declared.error.ErrorKind.TheVariants as kind
use Rattle.rustsec_versions.specs.ranges.AcceptedRanges.{HasUnboundedInterval}
use Rattle.rustsec_advisory.specs.FileRefusals.{IsAdvisoryAt, IsAdvisoryRefusal}
use Rattle.rustsec_advisory.specs.declared.advisory.Advisory.{Advisory}
use Rattle.rustsec_osv.specs.Documents.{Document}
use Rattle.rustsec_osv.specs.Export.{IsDocument}
use Rattle.rustsec_osv.specs.References.{references_of}
use Rattle.rustsec_osv.specs.DocumentCodec.{document_tree}
use Rattle.rustsec_commands.specs.Output.{Output, refused_as}
use Rattle.rustsec_json.specs.Lines.{tree_line}

-- the output for a document: its tree, and status 0
abbrev pub document_output : Document → Output
document_output d = record { text = tree_line (document_tree d); status = 0 }

-- the document of the advisory that may be read at a path
abbrev pub IsDocumentOf : Allowed → List ℕ → List ℕ → Document → Type 0
IsDocumentOf allowed path modified d = (a : Advisory) × (IsAdvisoryAt allowed path a × IsDocument a modified d)

-- the refusal of an advisory that has no document: its requirements leave no range, or the address of a page is not a URL
abbrev pub IsExportRefusal : Advisory → Failure → Type 0
IsExportRefusal a e = IsRefusal kind.BadParam (HasUnboundedInterval a.versions) e
    ⊎ IsRefusal kind.Parse ((¬ HasUnboundedInterval a.versions) × (references_of a.metadata ≡ None)) e

-- why there is no document: the file is refused, or its advisory has none
abbrev pub IsOsvRefusal : Allowed → List ℕ → Failure → Type 0
IsOsvRefusal allowed path e =
    IsAdvisoryRefusal allowed path e ⊎ ((a : Advisory) × (IsAdvisoryAt allowed path a × IsExportRefusal a e))

-- an output for such a document; or the kind of a refusal, which is not out of memory
pub data IsOsvOutput (allowed : Allowed) (path modified : List ℕ) (o : Output) : Type 0 where
  exported : (d : Document) → IsDocumentOf allowed path modified d → o ≡ document_output d → IsOsvOutput allowed path modified o
  refused : (e : Failure) → IsOsvRefusal allowed path e → e.kind ≢ kind.OutOfMemory → o ≡ refused_as e.kind → IsOsvOutput allowed path modified o
