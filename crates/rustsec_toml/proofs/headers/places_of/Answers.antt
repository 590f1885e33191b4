use Rattle.std.proofs.Common.{◌≡◌, ◌∙◌, ◌==◌, ◌+◌, ◌-◌, ◌<◌, ◌++◌, ◌∷◌, List, [], add-one, add-zero, ap, arith, codes, inl, inr, length, refl, rules, subst, sym, true, ℕ}
use Rattle.std.proofs.lemmas.Grind.{common_steps}
use Rattle.rustsec_toml.specs.Places.{IsEnd, IsHeader, IsPackageAt, from_token, next_token, place_past, up_to}
use Rattle.rustsec_toml.specs.declared.place.Place.{Place}
use Rattle.rustsec_toml.proofs.Columns.{past-nil}
use Rattle.rustsec_toml.proofs.Ends.{end-trans, up_to-further}
use Rattle.rustsec_toml.proofs.HeaderLaws.{Found, found-all, found-more, found-none, found-skip}
use Rattle.rustsec_toml.proofs.Kept.{end-blank, end-next}
use Rattle.rustsec_toml.proofs.headers.places_of.Goals as goal

none-left : (rest : List ℕ) → length rest ≡ 0 → rest ≡ []
none-left [] h = refl
none-left (b ∷ bs) h = absurd (omega arith)

pub tokens-init : goal.tokens-init
unfolding from_token
tokens-init c =
    let first = c.skip_blank-rest.ensures.rest in
    record {
      utf8 = c.skip_blank-rest.utf8;
      found = subst (λ ps. Found c.args.text.now ps 0) (sym c.new-places.ensures.items) (found-none c.args.text.now);
      token = first;
      end = subst (λ t. IsEnd t c.args.text.now) (sym first) (end-blank c.args.text.now);
      at = c.place_after-place.ensures.value [] past-nil ∙ ap place_past c.up_to.ensures.value;
      room = omega (arith, c.skip_blank-rest.ensures.within);
      line = omega (arith, c.up_to.ensures.len c.skip_blank-rest.ensures.within, c.place_after-place.ensures.line);
      column = omega (arith, c.up_to.ensures.len c.skip_blank-rest.ensures.within, c.place_after-place.ensures.column);
    }

pub returns-then-is_empty-clause-ok : goal.returns-then-is_empty-clause-ok
returns-then-is_empty-clause-ok c =
    let l = c.tokens in
    let over : length l.rest.now ≡ 0 = grind (arith, common_steps) in
    found-all c.args.text.now l.places.items l._at (sym l.invariant.token ∙ none-left l.rest.now over) l.invariant.found

pub tokens-preserved : goal.tokens-preserved
unfolding from_token
tokens-preserved c =
    let l = c.tokens in
    let text = c.args.text.now in
    let some : 0 < length l.rest.now = grind (arith, common_steps) in
    let next = c.in_ok-next.ensures in
    let shorter = next.shorter some in
    let further : IsEnd c.in_ok-next.next.now l.rest.now = subst (λ t. IsEnd t l.rest.now) (sym next.value) (end-next l.rest.now) in
    let before : c.up_to-in-tokens.result.now ≡ up_to (from_token text l._at) text = c.up_to-in-tokens.ensures.value ∙ ap (λ t. up_to t text) l.invariant.token in
    let place : l.place ≡ place_past (up_to (from_token text l._at) text) = l.invariant.at ∙ ap (λ t. place_past (up_to t text)) l.invariant.token in
    record {
      utf8 = search rules;
      found = elim c.in_ok-push_header.ensures [
        | inl more ↦ subst (λ ps. Found text ps (l._at + 1)) (sym more.0)
            (found-more text l.places.items l._at l.place (subst (λ t. IsHeader (codes "package") (up_to (from_token text l._at) text) t) l.invariant.token (subst (λ b. IsHeader (codes "package") b l.rest.now) before more.1)) place l.invariant.found)
        | inr same ↦ subst (λ ps. Found text ps (l._at + 1)) (sym same.0)
            (found-skip text l.places.items l._at (λ is. same.1 (subst (λ b. IsHeader (codes "package") b l.rest.now) (sym before) (subst (λ t. IsHeader (codes "package") (up_to (from_token text l._at) text) t) (sym l.invariant.token) is))) l.invariant.found)
      ];
      token = rw add-one (next.value ∙ ap next_token l.invariant.token);
      end = end-trans _ _ _ further l.invariant.end;
      at = c.place_after-place-in-tokens.ensures.value _ l.invariant.at
          ∙ ap (λ b. place_past (up_to l.rest.now text ++ b)) c.up_to-in-tokens-2.ensures.value ∙ ap place_past (up_to-further c.in_ok-next.next.now l.rest.now text l.invariant.end further);
      room = omega (arith, shorter, l.invariant.room);
      line = omega (arith, c.up_to-in-tokens-2.ensures.len next.within, c.place_after-place-in-tokens.ensures.line, l.invariant.line);
      column = omega (arith, c.up_to-in-tokens-2.ensures.len next.within, c.place_after-place-in-tokens.ensures.column, l.invariant.column);
    }

pub returns-clause-ok : goal.returns-clause-ok
returns-clause-ok c =
    let l = c.tokens in
    let over : length l.rest.now ≡ 0 = omega (arith, l.invariant.room, c.tokens-test.false) in
    found-all c.args.text.now l.places.items l._at (sym l.invariant.token ∙ none-left l.rest.now over) l.invariant.found
