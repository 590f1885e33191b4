-- What each text keeps without its first byte is kept by the text after a token, or after a key, too.
use Rattle.std.proofs.Common.{◌≡◌, ◌==◌, ◌++◌, ℕ, zero, suc, Bool, true, false, if◌then◌else◌, List, [], ◌∷◌, Option, None, Some, drop, length, nat_lt, option_map, option_and_then, encode_utf8, subst}
use Rattle.std.specs.List.{prefix_len}
use Rattle.toml_parser.specs.Lexical.{Read, dot, first, is_bare, is_ws, skip_blank, skip_from, skip_ws, split_while}
use Rattle.toml_parser.specs.Strings.{Key, after_piece, at_delims, body, escape, escape_char, hex_escape, key, key_after, one_line, prepend, quoted, recursion_limit, simple_escape, simple_key, special, starts_string, trim_newline}
use Rattle.rustsec_toml.specs.Places.{IsEnd, after_token, mark, next_token, rest_of, skip_mark}
use Rattle.rustsec_toml.proofs.Ends.{end-none, end-same, end-tail}

module _ (P : List ℕ → Type 0) (none : P []) (tail : (b : ℕ) (bs : List ℕ) → P (b ∷ bs) → P bs) where
  -- whether the rest keeps it, if something was read
  RestIs : {A : Type 0} → Read A → Type 0
  RestIs None = Unit
  RestIs (Some r) = P r.1

  rest_none : (A : Type 0) → RestIs {A = A} None
  unfolding RestIs
  rest_none A = tt

  rest_some : {A : Type 0} (a : A) (text : List ℕ) → P text → RestIs (Some (a, text))
  unfolding RestIs
  rest_some a text h = h

  at_drop : (k : ℕ) (text : List ℕ) → P text → P (drop k text)
  at_drop zero text h = h
  at_drop (suc k) [] h = none
  at_drop (suc k) (b ∷ bs) h = at_drop k bs (tail b bs h)

  at_if : (b : Bool) (xs ys : List ℕ) → P xs → P ys → P (if b then xs else ys)
  at_if true xs ys h k = h
  at_if false xs ys h k = k

  rest_if : {A : Type 0} (b : Bool) (x y : Read A) → RestIs x → RestIs y → RestIs (if b then x else y)
  rest_if true x y h k = h
  rest_if false x y h k = k

  rest_map : {A B : Type 0} (f : A → B) (r : Read A) → RestIs r → RestIs (option_map (λ p. (f p.0, p.1)) r)
  unfolding RestIs
  rest_map f None h = tt
  rest_map f (Some p) h = h

  rest_from : {A : Type 0} (o : Option A) (text : List ℕ) → P text → RestIs (option_map (λ c. (c, text)) o)
  unfolding RestIs
  rest_from None text h = tt
  rest_from (Some c) text h = h

  after_skip : (comments : Bool) (text : List ℕ) (inside : Bool) → P text → P (skip_from comments inside text)
  unfolding skip_from
  after_skip comments [] inside h = h
  after_skip comments (c ∷ cs) inside h = at_if _ _ _ (after_skip comments cs _ (tail c cs h)) h

  after_hex : (n : ℕ) (text : List ℕ) → P text → RestIs (hex_escape n text)
  unfolding hex_escape
  after_hex n text h = rest_if _ _ _ (rest_some _ _ (at_drop n text h)) (rest_none ℕ)

  after_char : (text : List ℕ) → P text → RestIs (escape_char text)
  unfolding escape_char
  after_char text h = rest_if _ _ _ (after_hex _ _ (at_drop 1 text h)) (rest_from (simple_escape (first text)) _ (at_drop 1 text h))

  after_escape : (multi : Bool) (text : List ℕ) → P text → RestIs (escape multi text)
  unfolding escape
  after_escape multi text h = rest_if _ _ _ (rest_some _ _ (after_skip false text false h)) (rest_map encode_utf8 (escape_char text) (after_char text h))

  after_delims : (delim : ℕ) (text : List ℕ) → P text → RestIs (at_delims delim text)
  after_delims delim text h =
      let count = prefix_len (λ c. c == delim) text in
      rest_if (count == 3) _ _ (rest_some None _ (at_drop 3 text h)) (rest_if (nat_lt count 6) _ _ (rest_some (Some (delim ∷ [])) _ (at_drop 1 text h)) (rest_none _))

  after_special : (delim : ℕ) (multi : Bool) (text : List ℕ) → P text → RestIs (special delim multi text)
  unfolding special
  after_special delim multi text h =
      rest_if _ _ _ (rest_if multi _ _ (after_delims delim text h) (rest_some _ _ (at_drop 1 text h)))
      (rest_if _ _ _ (rest_map Some (escape multi (drop 1 text)) (after_escape multi _ (at_drop 1 text h))) (rest_if _ _ _ (rest_some _ _ (at_drop 1 text h)) (rest_none _)))

  rest_prepend : (front : List ℕ) (r : Read (List ℕ)) → RestIs r → RestIs (prepend front r)
  rest_prepend front r h = rest_map (λ s. front ++ s) r h

  rest_piece : (more : List ℕ → Read (List ℕ)) → ((s : List ℕ) → P s → RestIs (more s)) → (r : Read (Option (List ℕ))) → RestIs r
      → RestIs (option_and_then (λ p. after_piece more p.0 p.1) r)
  unfolding RestIs
  rest_piece more all None h = tt
  rest_piece more all (Some (None, rest)) h = h
  rest_piece more all (Some (Some bytes, rest)) h = rest_prepend bytes (more rest) (all rest h)

  after_body : (delim : ℕ) (multi : Bool) (n : ℕ) (text : List ℕ) → P text → RestIs (body delim multi n text)
  unfolding body
  after_body delim multi zero text h = rest_none (List ℕ)
  after_body delim multi (suc n) text h =
      rest_if _ _ _ (rest_prepend (first text ∷ []) (body delim multi n (drop 1 text)) (after_body delim multi n _ (at_drop 1 text h)))
      (rest_piece (body delim multi n) (after_body delim multi n) (special delim multi text) (after_special delim multi text h))

  after_trim : (text : List ℕ) → P text → P (trim_newline text)
  after_trim text h = at_if _ _ _ (at_drop 1 text h) (at_if _ _ _ (at_drop 2 text h) h)

  after_one_line : (text : List ℕ) → P text → RestIs (one_line text)
  unfolding one_line
  after_one_line text h = after_body _ false _ _ (at_drop 1 text h)

  after_quoted : (text : List ℕ) → P text → RestIs (quoted text)
  unfolding quoted
  after_quoted text h = rest_if _ _ _ (after_body _ true _ _ (after_trim _ (at_drop 3 text h))) (after_one_line text h)

  rest_is : (r : Read (List ℕ)) → RestIs r → P (rest_of r)
  unfolding RestIs
  rest_is None h = none
  rest_is (Some r) h = h

  at_after_token : (text : List ℕ) → P text → P (after_token text)
  unfolding after_token
  at_after_token text h = at_if _ _ _ (rest_is (quoted text) (after_quoted text h)) (at_if _ _ _ (at_drop 1 text h) none)

  at_blank : (text : List ℕ) → P text → P (skip_blank text)
  at_blank text h = after_skip true _ false h

  at_ws : (text : List ℕ) → P text → P (skip_ws text)
  unfolding skip_ws
  at_ws text h = at_drop _ text h

  at_mark : (text : List ℕ) → P text → P (skip_mark text)
  at_mark text h = at_if _ _ _ (at_drop (length mark) text h) h

  after_simple : (text : List ℕ) → P text → RestIs (simple_key text)
  unfolding simple_key
  after_simple text h = rest_if _ _ _ (after_one_line text h) (rest_if _ _ _ (rest_some _ _ (at_drop _ text h)) (rest_none _))

  -- the text after a part, and after the other parts of a key
  after_part : (more : List ℕ → List ℕ → Read Key) (end : List ℕ → List ℕ → Key) (r : Read (List ℕ)) → ((part text : List ℕ) → P text → RestIs (more part text)) → RestIs r
      → RestIs (option_and_then (λ part. if first (skip_ws part.1) == dot then more part.0 (skip_ws (drop 1 (skip_ws part.1))) else Some (end part.0 (skip_ws part.1), skip_ws part.1)) r)
  unfolding RestIs
  after_part more end None all h = tt
  after_part more end (Some (part, rest)) all h =
      rest_if (first (skip_ws rest) == dot) _ _ (all part _ (at_ws _ (at_drop 1 _ (at_ws rest h)))) (rest_some (end part (skip_ws rest)) (skip_ws rest) (at_ws rest h))

  after_parts : (n : ℕ) (path : List (List ℕ)) (text : List ℕ) → P text → RestIs (key_after n path text)
  unfolding key_after
  after_parts zero path text h = rest_none Key
  after_parts (suc n) path text h =
      after_part (λ part. key_after n (path ++ part ∷ [])) (λ part rest. (path, part)) (simple_key text) (λ part. after_parts n (path ++ part ∷ [])) (after_simple text h)

  rest_found : {A : Type 0} (r : Read A) (a : A) (rest : List ℕ) → r ≡ Some (a, rest) → RestIs r → P rest
  unfolding RestIs
  rest_found r a rest e h = let Q : Read _ → Type 0 = RestIs in subst Q e h

  at_key : (text : List ℕ) (k : Key) (rest : List ℕ) → P text → key text ≡ Some (k, rest) → P rest
  at_key text k rest h e = rest_found (key text) k rest e (after_parts recursion_limit [] text h)

-- ---- all these are ends of the text

pub end-blank : (text : List ℕ) → IsEnd (skip_blank text) text
end-blank text = at_blank (λ t. IsEnd t text) (end-none text) (end-tail text) text (end-same text)

pub end-ws : (text : List ℕ) → IsEnd (skip_ws text) text
end-ws text = at_ws (λ t. IsEnd t text) (end-none text) (end-tail text) text (end-same text)

pub end-mark : (text : List ℕ) → IsEnd (skip_mark text) text
end-mark text = at_mark (λ t. IsEnd t text) (end-none text) (end-tail text) text (end-same text)

pub end-token : (text : List ℕ) → IsEnd (after_token text) text
end-token text = at_after_token (λ t. IsEnd t text) (end-none text) (end-tail text) text (end-same text)

pub end-quoted : (text : List ℕ) → IsEnd (rest_of (quoted text)) text
end-quoted text = rest_is (λ t. IsEnd t text) (end-none text) (end-tail text) (quoted text) (after_quoted (λ t. IsEnd t text) (end-none text) (end-tail text) text (end-same text))

pub end-next : (text : List ℕ) → IsEnd (next_token text) text
end-next text =
    at_blank (λ t. IsEnd t text) (end-none text) (end-tail text) (after_token text) (at_after_token (λ t. IsEnd t text) (end-none text) (end-tail text) text (end-same text))

pub end-key : (text : List ℕ) (k : Key) (rest : List ℕ) → key text ≡ Some (k, rest) → IsEnd rest text
end-key text k rest e = at_key (λ t. IsEnd t text) (end-none text) (end-tail text) text k rest (end-same text) e
