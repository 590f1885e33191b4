use Rattle.std.proofs.Common.{◌≡◌, ◌∙◌, ◌++◌, ◌∷◌, [], Some, ap, if◌then◌else◌, refl, rules, sym}
use Rattle.std.specs.Prelude.{slice_get}
use Rattle.std.specs.List.{filter, range_with_len}
use Rattle.std.specs.Str.{bytes_eq}
use Rattle.std.proofs.lemmas.Option.{slice_get_read}
use Rattle.rustsec_graph.specs.Words.{first_word, has_word_at}
use Rattle.rustsec_graph.proofs.Words.{word-more}
use Rattle.rustsec_graph.proofs.index.words_of.Goals as goal

pub loop-place-preserved : goal.loop-place-preserved
loop-place-preserved c = λ word.
    let p = c.index-packages-place.result in
    let i = c.loop-place.place in
    let at : slice_get c.args.packages.now i ≡ Some p = slice_get_read c.args.packages.now _ i p refl c.loop-place-test.true c.index-packages-place.is in
    let named : c.first_word.result.now ≡ first_word p.name = search rules in
    c.in_ok-push_place.ensures word ∙ ap (λ xs. xs ++ (if bytes_eq word c.first_word.result.now then i ∷ [] else [])) (c.loop-place.invariant word)
    ∙ ap (λ w. filter (has_word_at c.args.packages.now word) (range_with_len 0 i) ++ (if bytes_eq word w then i ∷ [] else [])) named ∙ sym (word-more c.args.packages.now word i p at)
