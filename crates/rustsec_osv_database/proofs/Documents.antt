-- The documents of the advisories so far, and why there are not more.
use Rattle.std.proofs.Common.{◌≡◌, ◌+◌, ◌<◌, ◌++◌, ℕ, List, [], ◌∷◌, Bor, get_or, length, map, refl, subst, sym, take}
use Rattle.std.specs.Prelude.{codes}
use Rattle.std.proofs.lemmas.List.{map_more}
use Rattle.rustsec_advisory.specs.declared.advisory.Advisory.{Advisory}
use Rattle.rustsec_files.proofs.Lists.{pairwise-push}
use Rattle.rustsec_osv.specs.Documents.{Document}
use Rattle.rustsec_osv.specs.DocumentCodec.{document_tree}
use Rattle.rustsec_json.specs.Trees.{list_tree}
use Rattle.rustsec_report.specs.Trees.{object_of}
use Rattle.rustsec_report.proofs.PlainTrees.{Plain, list-plain, object-plain}
use Rattle.rustsec_commands.proofs.lemmas.command.NoFloatsOsv.{document-plain}
use Rattle.rustsec_osv_database.specs.Answers.{AreDocuments, IsOwnDocument}

pub one-more-document : (xs : List (Bor Advisory)) (i : ℕ) (x : Bor Advisory) (before after : List Document) (d : Document) → i < length xs
    → x ≡ get_or xs i x → AreDocuments (map (λ (a : Bor Advisory). a.now) (take i xs)) before → IsOwnDocument x.now d → after ≡ before ++ d ∷ []
    → AreDocuments (map (λ (a : Bor Advisory). a.now) (take (i + 1) xs)) after
one-more-document xs i x before after d low is each h next =
    rw (map_more (λ (a : Bor Advisory). a.now) xs i x low) (subst
    (λ (ds : List Document). AreDocuments (map (λ (a : Bor Advisory). a.now) (take i xs) ++ (get_or xs i x).now ∷ []) ds) (sym next)
    (pairwise-push IsOwnDocument (map (λ (a : Bor Advisory). a.now) (take i xs)) before (get_or xs i x).now d each
    (subst (λ (y : Bor Advisory). IsOwnDocument y.now d) is h)))

pub answer-plain : (documents : List Document) → Plain (object_of ((codes "vulns", list_tree document_tree documents) ∷ []))
answer-plain documents = object-plain ((codes "vulns", list_tree document_tree documents) ∷ []) (list-plain document_tree document-plain documents, tt)
