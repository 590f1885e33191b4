-- What the words of `osv-database` choose.
use Rattle.std.proofs.Common.{◌≡◌, ◌∙◌, ℕ, Bool, false, true, List, Bor, None, Some, map, refl}
use Rattle.std.specs.List.{list_all, list_any}
use Rattle.std.proofs.lemmas.List.Folds.{list_all-map}
use Rattle.rustsec_program.proofs.OptionWords.{any_map}
use Rattle.rustsec_database_commands.specs.Osv.{choice_of, is_normalized, is_osv_option, is_skip}

all-options : (words : List (Bor (List ℕ))) (b : Bool) → list_all (λ (w : Bor (List ℕ)). is_osv_option w.now) words ≡ b
    → list_all is_osv_option (map (λ (w : Bor (List ℕ)). w.now) words) ≡ b
all-options words b h = list_all-map is_osv_option (λ (w : Bor (List ℕ)). w.now) words ∙ h

pub no_choice : (words : List (Bor (List ℕ))) → list_all (λ (w : Bor (List ℕ)). is_osv_option w.now) words ≡ false
    → None ≡ choice_of (map (λ (w : Bor (List ℕ)). w.now) words)
no_choice words h = rw (all-options words false h) refl

pub a_choice : (words : List (Bor (List ℕ))) (skip normalized : Bool) → list_all (λ (w : Bor (List ℕ)). is_osv_option w.now) words ≡ true
    → skip ≡ list_any (λ (w : Bor (List ℕ)). is_skip w.now) words → normalized ≡ list_any (λ (w : Bor (List ℕ)). is_normalized w.now) words
    → Some (record { skip_withdrawn = skip; normalized = normalized }) ≡ choice_of (map (λ (w : Bor (List ℕ)). w.now) words)
a_choice words skip normalized h s n =
    let one = s ∙ any_map is_skip (λ (w : Bor (List ℕ)). w.now) words in
    let two = n ∙ any_map is_normalized (λ (w : Bor (List ℕ)). w.now) words in
    rw (all-options words true h) (λ i. Some (record { skip_withdrawn = one i; normalized = two i }))
