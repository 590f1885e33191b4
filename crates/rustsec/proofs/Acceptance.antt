-- Files that load have accepted lists, and a text with accepted lists is an advisory.
use Rattle.std.proofs.Common.{ℕ, All, List, [], ◌∷◌}
use Rattle.std.proofs.lemmas.List.Elements.{All-cons, All-nil}
use Rattle.rustsec_files.specs.declared.source_file.SourceFile.{SourceFile}
use Rattle.rustsec_advisory.specs.Advisory.{IsAdvisory}
use Rattle.rustsec_advisory.specs.declared.advisory.Advisory.{Advisory}
use Rattle.rustsec_database.specs.Loaded.{AreFiled}
use Rattle.rustsec.specs.Acceptance.{HasAcceptedLists, HasLists, IsAdvisoryIfAccepted}

lists-of : (text : List ℕ) (a : Advisory) → IsAdvisory text a → HasAcceptedLists text
lists-of text a (document, h) =
    let lists : HasLists text a.versions = record {
      parts = h.parts;
      are_parts = h.are_parts;
      document = document;
      is_document = h.is_document;
      advisory_table = h.is_of.advisory_table;
      advisory_at = h.is_of.advisory_at;
      metadata = a.metadata;
      is_metadata = h.is_of.metadata;
      versions_table = h.is_of.versions_table;
      versions_at = h.is_of.versions_at;
      patched = h.is_of.versions.patched;
      unaffected = h.is_of.versions.unaffected;
      affected = a.affected;
      is_affected = h.is_of.affected;
    } in
    (a.versions, lists, h.is_of.versions.accepted)

pub all-accepted : (files : List SourceFile) (all : List Advisory) → AreFiled files all → All (λ (f : SourceFile). HasAcceptedLists f.text) files
all-accepted [] [] h = All-nil (λ (f : SourceFile). HasAcceptedLists f.text)
all-accepted [] (a ∷ all) h = absurd h
all-accepted (f ∷ files) [] h = absurd h
all-accepted (f ∷ files) (a ∷ all) h =
    All-cons (λ (f : SourceFile). HasAcceptedLists f.text) f files (lists-of f.text h.0.written h.0.is_advisory) (all-accepted files all h.1)

pub advisory-if-accepted : (text : List ℕ) → IsAdvisoryIfAccepted text
advisory-if-accepted text ls h accepts =
    let a : Advisory = record { metadata = h.metadata; affected = h.affected; versions = ls } in (
      a,
      (
        h.document,
        record {
          parts = h.parts;
          are_parts = h.are_parts;
          is_document = h.is_document;
          is_of = record {
            advisory_table = h.advisory_table;
            advisory_at = h.advisory_at;
            metadata = h.is_metadata;
            versions_table = h.versions_table;
            versions_at = h.versions_at;
            versions = record { patched = h.patched; unaffected = h.unaffected; accepted = accepts };
            affected = h.is_affected;
          };
        },
      ),
    )
