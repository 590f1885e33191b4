-- The parts of the advisories so far.
use Rattle.std.proofs.Common.{◌≡◌, ◌≢◌, ◌∙◌, ◌+◌, ◌<◌, ◌||◌, ◌++◌, ℕ, Bool, false, true, List, [], ◌∷◌, None, ap, get_or, inl, inr, length, refl, subst, sym, take}
use Rattle.std.specs.List.{flat_map, list_any}
use Rattle.std.proofs.Math.Bool.{or-false}
use Rattle.std.proofs.lemmas.Bool.{or_right}
use Rattle.std.proofs.lemmas.List.{append-nil, flat_map_more}
use Rattle.std.proofs.lemmas.List.Folds.{list_any-append}
use Rattle.rustsec_advisory.specs.declared.advisory.Advisory.{Advisory}
use Rattle.rustsec_versions.specs.ranges.AcceptedRanges.{HasUnboundedInterval}
use Rattle.rustsec_values.specs.Failure.{Failure, IsRefusal}
use Rattle.rustsec_values.specs.declared.error.ErrorKind.{ErrorKind}
use Rattle.rustsec_values.specs.declared.error.ErrorKind.TheVariants as kind
use Rattle.rustsec_files.proofs.Lists.{pairwise-step}
use Rattle.rustsec_osv.specs.Documents.{Document}
use Rattle.rustsec_osv.specs.Export.{IsDocument}
use Rattle.rustsec_osv.specs.References.{references_of}
use Rattle.rustsec_osv.specs.DocumentCodec.{document_tree}
use Rattle.rustsec_commands.specs.command.Osv.{IsExportRefusal}
use Rattle.rustsec_json.specs.Lines.{tree_line}
use Rattle.rustsec_commands.proofs.lemmas.Once.{no-memory}
use Rattle.rustsec_osv_database.specs.Lines.{AreParts, HasNoDocument, IsPart, Part, chosen, exported, is_left_out, left_out, without}
use Rattle.rustsec_osv_database.specs.declared.exported.Choice.{Choice}

-- one more part
abbrev is-missing : Part → Bool
is-missing p = p.missing

any-more : (parts : List Part) (p : Part) → (list_any is-missing parts || p.missing) ≡ list_any is-missing (parts ++ p ∷ [])
any-more parts p = sym (list_any-append is-missing parts (p ∷ []) ∙ ap (λ b. list_any is-missing parts || b) (or-false p.missing))

pub none-yet : (c : Choice) (modified : List ℕ) → AreParts c modified [] [] false
none-yet c modified = ([], (tt, refl, refl))

pub one-more : (c : Choice) (modified : List ℕ) (xs : List Advisory) (i : ℕ) (x : Advisory) (p : Part) (before after : List ℕ) (was is : Bool)
    → i < length xs → x ≡ get_or xs i x → AreParts c modified (take i xs) before was → IsPart c modified x p
    → after ≡ before ++ p.line → is ≡ (was || p.missing) → AreParts c modified (take (i + 1) xs) after is
one-more c modified xs i x p before after was is low at (parts, (each, text, missing)) h more next = (
  parts ++ p ∷ [],
  (
    pairwise-step (IsPart c modified) xs parts i x p low at each h,
    more ∙ (ap (λ t. t ++ p.line) text ∙ flat_map_more (λ (q : Part). q.line) [] parts p),
    next ∙ (ap (λ b. b || p.missing) missing ∙ any-more parts p),
  ),
)

-- an advisory that is left out, has a document, or has none
pub left-out : (c : Choice) (modified : List ℕ) (a : Advisory) (text : List ℕ) (missing : Bool) → is_left_out c a ≡ true
    → (p : Part) × (IsPart c modified a p × (text ≡ text ++ p.line) × (missing ≡ (missing || p.missing)))
left-out c modified a text missing h = (record { line = []; missing = false }, (left_out h refl, sym (append-nil text), sym (or-false missing)))

pub with-document : (c : Choice) (modified : List ℕ) (a : Advisory) (d : Document) (line before after : List ℕ) (was is : Bool) → is_left_out c a ≡ false
    → (whole : Document) × (IsDocument a modified whole × (d ≡ chosen c whole)) → line ≡ tree_line (document_tree d) → after ≡ before ++ line → is ≡ was
    → (p : Part) × (IsPart c modified a p × (after ≡ before ++ p.line) × (is ≡ (was || p.missing)))
with-document c modified a d line before after was is out (whole, (document, chosen)) made more same =
    let written = made ∙ ap (λ (e : Document). tree_line (document_tree e)) chosen in (
      record { line = line; missing = false },
      (exported whole out document (λ i. record { line = written i; missing = false }), more, same ∙ sym (or-false was)),
    )

pub without-document : (c : Choice) (modified : List ℕ) (a : Advisory) (before after : List ℕ) (was is : Bool) → is_left_out c a ≡ false → HasNoDocument a
    → after ≡ before → is ≡ true → (p : Part) × (IsPart c modified a p × (after ≡ before ++ p.line) × (is ≡ (was || p.missing)))
without-document c modified a before after was is out none same missing = (
  record { line = []; missing = true },
  (without out none refl, same ∙ sym (append-nil before), missing ∙ sym (or_right was true refl)),
)

-- why an advisory has no document, by the refusal of its export
reason : {P : Type 0} (k : ErrorKind) (e : Failure) → e.kind ≢ kind.OutOfMemory → IsRefusal k P e → P
reason k e other (inl h) = h.1
reason k e other (inr memory) = no-memory e other memory

pub no-document : (a b : Advisory) (e : Failure) → a ≡ b → IsExportRefusal a e → e.kind ≢ kind.OutOfMemory → HasNoDocument b
no-document a b e same (inl h) other = inl (subst (λ (x : Advisory). HasUnboundedInterval x.versions) same (reason kind.BadParam e other h))
no-document a b e same (inr h) other = inr (subst (λ (x : Advisory). references_of x.metadata ≡ None) same (reason kind.Parse e other h).1)
