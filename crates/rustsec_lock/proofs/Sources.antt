-- Parsing the text of a source gives that source.
use Rattle.std.proofs.Common.{◌≡◌, ◌∙◌, ◌+◌, ◌<◌, ◌++◌, ℕ, Bool, true, false, List, ◌∷◌, None, Some, ap, arith, drop, length, nat_lt, refl, take}
use Rattle.std.proofs.Math.Seq.{drop-append-add, take-append_seam}
use Rattle.std.proofs.lemmas.Bool.Decides.{nat_tests}
use Rattle.std.proofs.lemmas.List.{length-append}
use Rattle.std.specs.List.{after_first, before_first, position_or_len}
use Rattle.rustsec_values.specs.Reading.{◌>>=◌, only_if}
use Rattle.rustsec_lock.specs.Source.{Source, at_plus, is_plus, kind_of, kind_word, located, location_of, source_id_of, source_of_cut, source_text}
use Rattle.rustsec_lock.specs.declared.source.SourceKind.{SourceKind}
use Rattle.rustsec_lock.specs.declared.source.SourceKind.TheVariants as kind

cut-of : (test : Bool) (x y word address : List ℕ) → test ≡ true → x ≡ word → y ≡ address → only_if {A = List ℕ × List ℕ} test (Some (x, y)) ≡ Some (word, address)
cut-of test x y word address h p q = rw (h, p, q) refl

longer : (word address : List ℕ) → nat_lt (length word) (length (word ++ 43 ∷ address)) ≡ true
longer word address = let e = length-append word (43 ∷ address) in grind (arith, nat_tests, e)

-- a word without a plus sign, a plus sign and an address are cut there
at_plus-back : (word address : List ℕ) → position_or_len is_plus (word ++ 43 ∷ address) ≡ length word → at_plus (word ++ 43 ∷ address) ≡ Some (word, address)
at_plus-back word address h =
    cut-of _ _ _ word address
    (ap (λ n. nat_lt n (length (word ++ 43 ∷ address))) h ∙ longer word address)
    (ap (λ n. take n (word ++ 43 ∷ address)) h ∙ take-append_seam word (43 ∷ address))
    (ap (λ n. drop (n + 1) (word ++ 43 ∷ address)) h ∙ drop-append-add word (43 ∷ address) 1)

word-end : (k : SourceKind) (address : List ℕ) → position_or_len is_plus (kind_word k ++ 43 ∷ address) ≡ length (kind_word k)
word-end kind.Registry address = refl
word-end kind.SparseRegistry address = refl
word-end kind.Git address = refl
word-end kind.Path address = refl
word-end kind.LocalRegistry address = refl
word-end kind.Directory address = refl

word-back : (k : SourceKind) (address : List ℕ) → source_of_cut (kind_word k, address) ≡ located (record { kind = k; address = address })
word-back kind.Registry address = refl
word-back kind.SparseRegistry address = refl
word-back kind.Git address = refl
word-back kind.Path address = refl
word-back kind.LocalRegistry address = refl
word-back kind.Directory address = refl

some : (n : ℕ) → 0 < n → nat_lt 0 n ≡ true
some n h = grind (arith, nat_tests, h)

located-back : (s : Source) → 0 < length (location_of s.kind s.address) → located s ≡ Some s
located-back s h = rw (some (length (location_of s.kind s.address)) h) refl

pub source-back : (s : Source) → 0 < length (location_of s.kind s.address) → source_id_of (source_text s) ≡ Some s
source-back s h =
    ap (λ cut. cut >>= source_of_cut) (at_plus-back (kind_word s.kind) s.address (word-end s.kind s.address)) ∙ word-back s.kind s.address ∙ located-back s h

no_kind : (b : Bool) (cut : List ℕ × List ℕ) → kind_of cut.0 ≡ None → (only_if b (Some cut) >>= source_of_cut) ≡ None
no_kind true cut h = rw h refl
no_kind false cut h = refl

-- a text whose word is not that of a kind is not a source
pub source_id_of-no_kind : (text word : List ℕ) → word ≡ before_first is_plus text → kind_of word ≡ None → source_id_of text ≡ None
source_id_of-no_kind text word is h = no_kind _ (before_first is_plus text, after_first is_plus text) (rw is at h)
