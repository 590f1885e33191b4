-- An exported document is the document of the definition, and its events are those of its one range.
use Rattle.std.proofs.Common.{◌≡◌, ◌++◌, ◌⊎◌, ◌∷◌, ℕ, List, [], Option, Some, Ok, Err, append-nil, refl, sym, subst, inl, inr}
use Rattle.std.specs.Prelude.{All, IfErr, IfOk, None, Result}
use Rattle.std.proofs.lemmas.List.Elements.{All-cons, All-nil}
use Rattle.rustsec_advisory.specs.FieldGroups.{kinds_of}
use Rattle.rustsec_advisory.specs.declared.advisory.Advisory.{Advisory}
use Rattle.rustsec_advisory.specs.declared.affected.Affected.{Affected}
use Rattle.rustsec_advisory.specs.declared.metadata.Metadata.{Metadata}
use Rattle.rustsec_values.specs.Failure.{Failure, IsRefusal}
use Rattle.rustsec_versions.specs.acceptance.Lists.{Lists}
use Rattle.rustsec_values.specs.declared.error.ErrorKind.TheVariants as kind
use Rattle.rustsec_versions.specs.ranges.AcceptedRanges.{HasUnboundedInterval}
use Rattle.rustsec_json.specs.Codecs.{IfThere}
use Rattle.rustsec_osv.specs.DocumentCodec.{AreEventsValid}
use Rattle.rustsec_osv.specs.DocumentEvents.{Event, JsonRange}
use Rattle.rustsec_osv.specs.Documents.{Document}
use Rattle.rustsec_osv.specs.EventCodec.{IsRangeAgain}
use Rattle.rustsec_osv.specs.Export.{IsDocument, IsRangeOf, database_of, document_events, document_with, member_of, package_of}
use Rattle.rustsec_osv.specs.References.{references_of}
use Rattle.rustsec_osv.specs.declared.affected.OsvAffected.{OsvAffected}
use Rattle.rustsec_osv.specs.declared.reference.OsvReference.{OsvReference}

three : (es : List Event) → ((es ++ []) ++ []) ++ [] ≡ es
three es = simp append-nil

pub document-events : (m : Metadata) (a : Option Affected) (modified : List ℕ) (references : List OsvReference) (range : JsonRange)
    → document_events (document_with m a modified references range) ≡ range.events
document-events m a modified references range = three range.events

-- the parts of an advisory
abbrev pub AreParts : Advisory → Metadata × Option Affected × Lists → Type 0
AreParts a parts = parts ≡ (a.metadata, a.affected, a.versions)

-- the document of these parts with this range
abbrev IsMade : Metadata × Option Affected × Lists → List ℕ → JsonRange → Document → Type 0
IsMade parts modified range d =
    (references : List OsvReference) × (references_of parts.0 ≡ Some references) × (d ≡ document_with parts.0 parts.1 modified references range)

one-exported : (a : Advisory) (modified : List ℕ) (range : JsonRange) (d : Document) (parts : Metadata × Option Affected × Lists) → AreParts a parts
    → IsRangeOf parts.2 range → IsMade parts modified range d → IsDocument a modified d
one-exported a modified range d parts e =
    subst (λ (p : Metadata × Option Affected × Lists). IsRangeOf p.2 range → IsMade p modified range d → IsDocument a modified d) (sym e)
    (λ is_range made. record { range = range; is_range = is_range; references = made.0; are_references = made.1; is = made.2 })

pub exported : (a : Advisory) (modified : List ℕ) (range : JsonRange) (r : Result Document Failure) (parts : Metadata × Option Affected × Lists)
    → AreParts a parts → IsRangeOf parts.2 range → IfOk r (IsMade parts modified range) → IfOk r (IsDocument a modified)
exported a modified range (Ok d) parts e is_range made = one-exported a modified range d parts e is_range made
exported a modified range (Err f) parts e is_range made = tt

-- the meaning of an error of the export
abbrev IsRefusedFor : Lists → Metadata → Failure → Type 0
IsRefusedFor ls m e =
    IsRefusal kind.BadParam (HasUnboundedInterval ls) e ⊎ IsRefusal kind.Parse ((¬ HasUnboundedInterval ls) × (references_of m ≡ None)) e

one-refused : (ls : Lists) (m : Metadata) (f : Failure) → ¬ HasUnboundedInterval ls → IsRefusal kind.Parse (references_of m ≡ None) f → IsRefusedFor ls m f
one-refused ls m f some (inl parse) = inr (inl (parse.0, (some, parse.1)))
one-refused ls m f some (inr memory) = inr (inr memory)

pub refused : (a : Advisory) (range : JsonRange) (r : Result Document Failure) (parts : Metadata × Option Affected × Lists)
    → AreParts a parts → IsRangeOf parts.2 range → IfErr r (IsRefusal kind.Parse (references_of parts.0 ≡ None))
    → IfErr r (IsRefusedFor a.versions a.metadata)
refused a range (Ok d) parts e is_range h = tt
refused a range (Err f) parts e is_range h =
    subst (λ (p : Metadata × Option Affected × Lists). IsRangeOf p.2 range → IsRefusal kind.Parse (references_of p.0 ≡ None) f
    → IsRefusedFor a.versions a.metadata f) (sym e) (λ is_range h. one-refused a.versions a.metadata f is_range.some h) is_range h

-- an error of the range
pub range-refused : (a : Advisory) (f : Failure) (parts : Metadata × Option Affected × Lists) → AreParts a parts
    → IsRefusal kind.BadParam (HasUnboundedInterval parts.2) f → IsRefusedFor a.versions a.metadata f
range-refused a f parts e h = inl (subst (λ (p : Metadata × Option Affected × Lists). IsRefusal kind.BadParam (HasUnboundedInterval p.2) f) e h)

-- ---- valid events

member-valid : (a : OsvAffected) (range : JsonRange) → a.ranges ≡ Some (range ∷ []) → IsRangeAgain range → IfThere (All IsRangeAgain) a.ranges
member-valid a range e valid = rw e (All-cons IsRangeAgain range [] valid (All-nil IsRangeAgain))

made-valid : (m : Metadata) (a : Option Affected) (modified : List ℕ) (references : List OsvReference) (range : JsonRange) → IsRangeAgain range
    → AreEventsValid (document_with m a modified references range)
made-valid m a modified references range valid =
    let member = member_of (package_of m.«package») (database_of (kinds_of m)) a range in
    All-cons (λ (x : OsvAffected). IfThere (All IsRangeAgain) x.ranges) member [] (member-valid member range refl valid)
    (All-nil (λ (x : OsvAffected). IfThere (All IsRangeAgain) x.ranges))

pub exported-valid : (modified : List ℕ) (range : JsonRange) (r : Result Document Failure) (parts : Metadata × Option Affected × Lists)
    → IsRangeAgain range → IfOk r (IsMade parts modified range) → IfOk r AreEventsValid
exported-valid modified range (Ok d) parts valid made =
    subst AreEventsValid (sym made.2) (made-valid parts.0 parts.1 modified made.0 range valid)
exported-valid modified range (Err f) parts valid made = tt
