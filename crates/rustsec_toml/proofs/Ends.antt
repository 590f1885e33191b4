-- Ends of texts, and the text after tokens.
use Rattle.std.proofs.Common.{◌≡◌, ◌∙◌, ◌==◌, ◌+◌, ◌-◌, ◌≤◌, ◌++◌, ℕ, zero, suc, Bool, true, false, if◌then◌else◌, List, [], ◌∷◌, Option, None, Some, ap, append-nil, append_assoc, arith, drop, length, length-append, nat_lt, option_map, option_and_then, encode_utf8, refl, sym, take, take_at}
use Rattle.std.proofs.lemmas.List.{take-append-drop}
use Rattle.std.specs.List.{prefix_len}
use Rattle.toml_parser.specs.Lexical.{Read, dot, first, is_bare, is_ws, skip_blank, skip_from, skip_ws, split_while}
use Rattle.toml_parser.specs.Strings.{Key, after_piece, at_delims, body, escape, escape_char, hex_escape, key, key_after, one_line, prepend, quoted, recursion_limit, simple_escape, simple_key, special, starts_string, trim_newline}
use Rattle.rustsec_toml.specs.Places.{IsEnd, after_token, mark, next_token, rest_of, skip_mark, up_to}

pub end-same : (text : List ℕ) → IsEnd text text
end-same text = record { before = []; whole = refl }

pub end-none : (text : List ℕ) → IsEnd [] text
end-none text = record { before = text; whole = sym (append-nil text) }

pub end-tail : (text : List ℕ) (b : ℕ) (bs : List ℕ) → IsEnd (b ∷ bs) text → IsEnd bs text
end-tail text b bs h = record { before = h.before ++ b ∷ []; whole = h.whole ∙ sym (append_assoc h.before (b ∷ []) bs) }

pub end-drop : (n : ℕ) (text : List ℕ) → IsEnd (drop n text) text
end-drop n text = record { before = take n text; whole = sym (take-append-drop n text) }

pub end-trans : (a b c : List ℕ) → IsEnd a b → IsEnd b c → IsEnd a c
end-trans a b c h k = record { before = k.before ++ h.before; whole = k.whole ∙ ap (λ t. k.before ++ t) h.whole ∙ sym (append_assoc k.before h.before a) }

pub end-le : (rest text : List ℕ) → IsEnd rest text → length rest ≤ length text
end-le rest text h = omega (arith, length-append h.before rest, ap length h.whole)

-- the front up to an end is what comes before it
pub up_to-end : (before rest text : List ℕ) → text ≡ before ++ rest → up_to rest text ≡ before
up_to-end before rest text h =
    ap (λ t. take (length t - length rest) t) h ∙ take_at before rest _ (omega (arith, length-append before rest))

-- up to an end of an end
pub up_to-further : (next rest text : List ℕ) → IsEnd rest text → IsEnd next rest → up_to rest text ++ up_to next rest ≡ up_to next text
unfolding end-trans
up_to-further next rest text h k =
    ap (λ xs. xs ++ up_to next rest) (up_to-end h.before rest text h.whole) ∙ ap (λ xs. h.before ++ xs) (up_to-end k.before next rest k.whole)
    ∙ sym (up_to-end (h.before ++ k.before) next text (end-trans next rest text k h).whole)
