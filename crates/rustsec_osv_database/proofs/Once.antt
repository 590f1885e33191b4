-- What is written of an advisory, and the answer for a version, are one.
use Rattle.std.proofs.Common.{◌≡◌, ◌∙◌, ℕ, All, Bool, false, true, List, [], ◌∷◌, None, Some, ap, inl, inr, refl, sym}
use Rattle.std.proofs.lemmas.List.Elements.{All-cons, All-contains, All-nil}
use Rattle.std.specs.List.{flat_map, list_any}
use Rattle.semver.specs.Parse.{Parts}
use Rattle.rustsec_files.proofs.Once.{pairwise-once}
use Rattle.rustsec_files.specs.Listed.{Pairwise}
use Rattle.rustsec_advisory.specs.declared.advisory.Advisory.{Advisory}
use Rattle.rustsec_osv.specs.Documents.{Document}
use Rattle.rustsec_osv.specs.Export.{IsDocument, noon}
use Rattle.rustsec_osv.specs.DocumentCodec.{document_tree}
use Rattle.rustsec_commands.proofs.lemmas.Once.{document-once, none-or-some}
use Rattle.rustsec_json.specs.Lines.{tree_line}
use Rattle.rustsec_osv_database.specs.Answers.{AreDocuments, HasNoAnswer, IsAnswerOf, IsOwnDocument, affecting, answer_line}
use Rattle.rustsec_osv_database.specs.Lines.{AreParts, HasNoDocument, IsPart, Part, chosen, exported, is_left_out, left_out, without}
use Rattle.rustsec_osv_database.specs.declared.exported.Choice.{Choice}

-- an advisory with a document is not one without
pub document-or-none : {P : Type 0} (a : Advisory) (modified : List ℕ) (d : Document) → IsDocument a modified d → HasNoDocument a → P
document-or-none a modified d h (inl unbounded) = absurd (h.is_range.some unbounded)
document-or-none a modified d h (inr missing) = none-or-some _ h.references missing h.are_references

both : {P : Type 0} (b : Bool) → b ≡ true → b ≡ false → P
both b h k = absurd (cc (sym h ∙ k))

abbrev written : Choice → Document → Part
written c d = record { line = tree_line (document_tree (chosen c d)); missing = false }

part-once : (c : Choice) (modified : List ℕ) (a : Advisory) (p q : Part) → IsPart c modified a p → IsPart c modified a q → p ≡ q
part-once c modified a p q (left_out h is) (left_out k also) = is ∙ sym also
part-once c modified a p q (left_out h is) (exported d k document also) = both _ h k
part-once c modified a p q (left_out h is) (without k none also) = both _ h k
part-once c modified a p q (exported d h document is) (left_out k also) = both _ k h
part-once c modified a p q (exported d h document is) (exported e k other also) = is ∙ (ap (written c) (document-once a modified d e document other) ∙ sym also)
part-once c modified a p q (exported d h document is) (without k none also) = document-or-none a modified d document none
part-once c modified a p q (without h none is) (left_out k also) = both _ k h
part-once c modified a p q (without h none is) (exported d k document also) = document-or-none a modified d document none
part-once c modified a p q (without h none is) (without k other also) = is ∙ sym also

parts-one : (c : Choice) (modified : List ℕ) (xs : List Advisory) (ps qs : List Part) → Pairwise (IsPart c modified) xs ps → Pairwise (IsPart c modified) xs qs
    → ps ≡ qs
parts-one c modified xs ps qs h k = pairwise-once (IsPart c modified) (part-once c modified) xs ps qs h k

pub text-once : (c : Choice) (modified : List ℕ) (xs : List Advisory) (text other : List ℕ) (missing also : Bool) → AreParts c modified xs text missing
    → AreParts c modified xs other also → (text ≡ other) × (missing ≡ also)
text-once c modified xs text other missing also (ps, (each, is, m)) (qs, (again, too, n)) =
    let same = parts-one c modified xs ps qs each again in (
      is ∙ (ap (λ (l : List Part). flat_map (λ (p : Part). p.line) l) same ∙ sym too),
      m ∙ (ap (λ (l : List Part). list_any (λ (p : Part). p.missing) l) same ∙ sym n),
    )

own-once : (a : Advisory) (d e : Document) → IsOwnDocument a d → IsOwnDocument a e → d ≡ e
own-once a d e h k = document-once a (noon a.metadata.date) d e h k

pub answer-once : (name : List ℕ) (version : Parts) (xs : List Advisory) (text other : List ℕ) → IsAnswerOf name version xs text
    → IsAnswerOf name version xs other → text ≡ other
answer-once name version xs text other (ds, (each, is)) (es, (again, also)) =
    is ∙ (ap answer_line (pairwise-once IsOwnDocument own-once (affecting name version xs) ds es each again) ∙ sym also)

all-have : (xs : List Advisory) (ds : List Document) → AreDocuments xs ds → All (λ (a : Advisory). ¬ HasNoDocument a) xs
all-have [] [] h = All-nil (λ (a : Advisory). ¬ HasNoDocument a)
all-have [] (d ∷ ds) h = absurd h
all-have (x ∷ xs) [] h = absurd h
all-have (x ∷ xs) (d ∷ ds) h =
    let fails : ¬ HasNoDocument x = λ none. document-or-none x (noon x.metadata.date) d h.0 none in
    All-cons (λ (a : Advisory). ¬ HasNoDocument a) x xs fails (all-have xs ds h.1)

pub answer-or-none : {P : Type 0} (name : List ℕ) (version : Parts) (xs : List Advisory) (text : List ℕ) → IsAnswerOf name version xs text
    → HasNoAnswer name version xs → P
answer-or-none name version xs text (ds, (each, is)) (a, (has, none)) =
    absurd (All-contains (λ (b : Advisory). ¬ HasNoDocument b) (affecting name version xs) a (all-have (affecting name version xs) ds each) has none)
