-- The findings of one more pair.
use Rattle.std.proofs.Common.{◌≡◌, ◌∙◌, ◌++◌, true, false, List, [], ◌∷◌, ap, refl, sym}
use Rattle.std.specs.Prelude.{not}
use Rattle.std.proofs.lemmas.List.{append-nil, map-append}
use Rattle.std.proofs.lemmas.List.Elements.{All-push, filter-append}
use Rattle.rustsec_texts.specs.Ids.{IdValue}
use Rattle.rustsec_check.specs.Findings.{AreFindingsOf, IsFinding, pair_of}
use Rattle.rustsec_check.specs.Pairs.{counted, is_ignored}
use Rattle.rustsec_check.specs.Values.{FindingValue, Found, SubjectValue}

-- a pair whose advisory is not ignored is counted, and another one is not
counted-more : (ids : List IdValue) (fs : List Found) (f : Found) → is_ignored ids f ≡ false → counted ids (fs ++ f ∷ []) ≡ counted ids fs ++ f ∷ []
counted-more ids fs f h = filter-append (λ g. not (is_ignored ids g)) fs (f ∷ []) ∙ rw h refl

counted-same : (ids : List IdValue) (fs : List Found) (f : Found) → is_ignored ids f ≡ true → counted ids (fs ++ f ∷ []) ≡ counted ids fs
counted-same ids fs f h = filter-append (λ g. not (is_ignored ids g)) fs (f ∷ []) ∙ rw h (append-nil (counted ids fs))

pub one-finding : (s : SubjectValue) (fs more : List Found) (f : Found) (old new : List FindingValue) (x : FindingValue)
    → AreFindingsOf s fs old → is_ignored s.settings.ignore f ≡ false → pair_of x ≡ f → IsFinding s x → more ≡ fs ++ f ∷ [] → new ≡ old ++ x ∷ []
    → AreFindingsOf s more new
one-finding s fs more f old new x so h pair is more_is new_is = rw (more_is, new_is) (record {
  pairs = map-append pair_of old (x ∷ []) ∙ (ap (λ ps. ps ++ pair_of x ∷ []) so.pairs
      ∙ (ap (λ p. counted s.settings.ignore fs ++ p ∷ []) pair ∙ sym (counted-more s.settings.ignore fs f h)));
  each = All-push (IsFinding s) old x so.each is;
})

pub no-finding : (s : SubjectValue) (fs more : List Found) (f : Found) (old new : List FindingValue)
    → AreFindingsOf s fs old → is_ignored s.settings.ignore f ≡ true → more ≡ fs ++ f ∷ [] → new ≡ old → AreFindingsOf s more new
no-finding s fs more f old new so h more_is new_is = rw (more_is, new_is) (record {
  pairs = so.pairs ∙ sym (counted-same s.settings.ignore fs f h);
  each = so.each;
})
