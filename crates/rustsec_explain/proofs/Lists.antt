-- Parts of a table, one after another.
use Rattle.std.proofs.Common.{◌≡◌, ◌∙◌, ◌++◌, List, append_assoc, ap, map, sym}
use Rattle.std.specs.List.{filter}
use Rattle.std.proofs.lemmas.List.{map-append}
use Rattle.std.proofs.lemmas.List.Elements.{filter-append}
use Rattle.rustsec_explain.specs.declared.reason.Reason.{Reason}
use Rattle.rustsec_explain.specs.Reasons.{Row, applying}

applying-append : (xs ys : List Row) → applying (xs ++ ys) ≡ applying xs ++ applying ys
applying-append xs ys =
    ap (map (λ row. row.0)) (filter-append (λ row. row.1) xs ys) ∙ map-append (λ row. row.0) (filter (λ row. row.1) xs) (filter (λ row. row.1) ys)

pub more : (old new next : List Reason) (xs ys : List Row) → new ≡ old ++ applying xs → next ≡ new ++ applying ys → next ≡ old ++ applying (xs ++ ys)
more old new next xs ys first second =
    second ∙ (ap (λ l. l ++ applying ys) first ∙ (append_assoc old (applying xs) (applying ys) ∙ ap (λ l. old ++ l) (sym (applying-append xs ys))))

-- four parts of a table, one after another
pub four : (old one two three next : List Reason) (a b c d : List Row) → one ≡ old ++ applying a → two ≡ one ++ applying b
    → three ≡ two ++ applying c → next ≡ three ++ applying d → next ≡ old ++ applying (a ++ (b ++ (c ++ d)))
four old one two three next a b c d first second third fourth =
    more old one next a (b ++ (c ++ d)) first (more one two next b (c ++ d) second (more two three next c d third fourth))
