-- Entries, one after another.
use Rattle.std.proofs.Common.{◌≡◌, ◌++◌, ◌==◌, ◌<◌, ◌≤◌, ◌+◌, ℕ, Bool, true, false, List, [], ◌∷◌, Option, Some, None, ap, arith, length, length-drop, refl}
use Rattle.std.specs.List.{after_first, position_or_len}
use Rattle.std.proofs.lemmas.List.Elements.{filter_map-append}
use Rattle.rustsec_values.specs.Reading.{◌>>=◌, only_if}
use Rattle.rustsec_registry.specs.declared.lookup.IndexVersion.{IndexVersion}
use Rattle.rustsec_registry.specs.index.CacheFile.{cut, is_nul, text_or_empty}
use Rattle.rustsec_registry.specs.index.IndexFile.{Entries, after_entry, first_says, versions_said}
use Rattle.rustsec_registry.specs.declared.index.form.IndexForm.{IndexForm}
use Rattle.rustsec_registry.specs.declared.index.form.IndexForm.TheVariants as form

-- ---- one entry more

pub entries-push : (f : IndexForm) (name text : List ℕ) (said : List (Option IndexVersion)) (mid : List ℕ) (v : Option IndexVersion)
    → Entries f name text said mid → 0 < length mid → first_says f name mid ≡ Some v → Entries f name text (said ++ v ∷ []) (after_entry f mid)
entries-push f name text [] mid v h low says = (rw h low, rw h says, ap (after_entry f) h)
entries-push f name text (w ∷ ws) mid v h low says = (h.0, h.1, entries-push f name (after_entry f text) ws mid v h.2 low says)

pub said-push : (said : List (Option IndexVersion)) (v : Option IndexVersion) → versions_said (said ++ v ∷ []) ≡ versions_said said ++ versions_said (v ∷ [])
said-push said v = filter_map-append (λ (w : Option IndexVersion). w) said (v ∷ [])

-- ---- the text after an entry is shorter

given : {A : Type 0} (b : Bool) (x y : A) → only_if b (Some x) ≡ Some y → x ≡ y
given true x y h = cc h
given false x y h = cc h

cut-shorter : (text : List ℕ) (p : List ℕ × List ℕ) → cut text ≡ Some p → 0 < length text → length (p.1) < length text
cut-shorter text p e low =
    let is = given _ _ p e in
    let size : length (after_first is_nul text) ≡ length (p.1) = ap (λ (q : List ℕ × List ℕ). length (q.1)) is in
    omega (arith, low, size, length-drop (position_or_len is_nul text + 1) text)

cut-no-longer : (text : List ℕ) (p : List ℕ × List ℕ) → cut text ≡ Some p → length (p.1) ≤ length text
cut-no-longer text p e =
    let is = given _ _ p e in
    let size : length (after_first is_nul text) ≡ length (p.1) = ap (λ (q : List ℕ × List ℕ). length (q.1)) is in
    omega (arith, size, length-drop (position_or_len is_nul text + 1) text)

line-rest : (text : List ℕ) (o : Option (List ℕ × List ℕ)) → cut text ≡ o → length (text_or_empty (o >>= λ line. Some (line.1))) ≤ length text
line-rest text None e = omega arith
line-rest text (Some p) e = cut-no-longer text p e

pair-rest : (text : List ℕ) (o : Option (List ℕ × List ℕ)) → cut text ≡ o → 0 < length text
    → length (text_or_empty (o >>= λ version. cut (version.1) >>= λ line. Some (line.1))) < length text
pair-rest text None e low = low
pair-rest text (Some p) e low = omega (arith, cut-shorter text p e low, line-rest (p.1) (cut (p.1)) refl)

pub after-shorter : (f : IndexForm) (text : List ℕ) → 0 < length text → length (after_entry f text) < length text
after-shorter form.Checkout text low = omega (arith, low, length-drop (position_or_len (λ b. b == 10) text + 1) text)
after-shorter form.Cache text low = pair-rest text (cut text) refl low
