-- A slice of a text, and a slice of a slice, is a slice of the text.
use Rattle.std.proofs.Common.{◌≡◌, ℕ, List, [], ◌++◌, take, drop, Some, sym, append_assoc}
use Rattle.std.proofs.lemmas.List.{append-nil, take-append-drop}
use Rattle.std.specs.Str.{IsTrim, IsTrimEnd, IsTrimStart}
use Rattle.rustsec_texts.specs.PatternCuts.{IsSliceOf, after_prefix, cut_at}
use Rattle.rustsec_texts.proofs.Cutting.{after_prefix-is, cut_at-is}

pub within : (a b c : List ℕ) → IsSliceOf a b → IsSliceOf b c → IsSliceOf a c
within a b c h k =
    (k.0 ++ h.0, h.1 ++ k.1, rw (append_assoc k.0 h.0 (a ++ (h.1 ++ k.1)), ← append_assoc a h.1 k.1, ← append_assoc h.0 (a ++ h.1) k.1, ← h.2) k.2)

pub dropped : (n : ℕ) (text : List ℕ) → IsSliceOf (drop n text) text
dropped n text = (take n text, [], rw (append-nil (drop n text)) (sym (take-append-drop n text)))

pub taken : (n : ℕ) (text : List ℕ) → IsSliceOf (take n text) text
taken n text = ([], drop n text, sym (take-append-drop n text))

pub after_prefix-slice : (p text rest : List ℕ) → after_prefix p text ≡ Some rest → IsSliceOf rest text
after_prefix-slice p text rest h = (p, [], rw (append-nil rest) (after_prefix-is p text rest h))

pub cut_at-front : (p text before after : List ℕ) → cut_at p text ≡ Some (before, after) → IsSliceOf before text
cut_at-front p text before after h = ([], p ++ after, (cut_at-is p text (before, after) h).whole)

pub cut_at-back : (p text before after : List ℕ) → cut_at p text ≡ Some (before, after) → IsSliceOf after text
cut_at-back p text before after h =
    (before ++ p, [], rw (append-nil after, append_assoc before p after) ((cut_at-is p text (before, after) h).whole))

pub trimmed : (text r : List ℕ) → IsTrim text r → IsSliceOf r text
trimmed text r h = rw h.2 (within _ _ _ (taken h.1 (drop h.0 text)) (dropped h.0 text))

pub trimmed-front : (text r : List ℕ) → IsTrimStart text r → IsSliceOf r text
trimmed-front text r h = rw h.1 (dropped h.0 text)

pub trimmed-end : (text r : List ℕ) → IsTrimEnd text r → IsSliceOf r text
trimmed-end text r h = rw h.1 (taken h.0 text)
