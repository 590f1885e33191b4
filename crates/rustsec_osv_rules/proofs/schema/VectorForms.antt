-- The scans for vectors of CVSS 3 and 4 accept exactly the vectors.
use Rattle.std.proofs.Common.{◌≡◌, ◌∙◌, inl, inr, ℕ, true, false, List, [], ◌∷◌, ◌++◌, Option, Some, None, append-nil, ap, map, option_map, refl, subst, sym, take, codes}
use Rattle.std.specs.Prelude.{option_and_then, unwrap_or}
use Rattle.std.specs.List.{AllZip, list_all}
use Rattle.std.specs.Cmp.Lexicographic.{bytes_decides}
use Rattle.std.specs.Str.{bytes_eq}
use Rattle.std.proofs.lemmas.Bool.{or_left, or_right}
use Rattle.std.proofs.lemmas.Grind.{flat_map-append}
use Rattle.std.proofs.lemmas.List.Elements.{filter_map-append}
use Rattle.rustsec_osv_rules.specs.schema.Metrics.{Metric, base_metrics_4, metric, metrics_3, other_metrics_4}
use Rattle.rustsec_osv_rules.specs.schema.Texts.{is_one_of}
use Rattle.rustsec_osv_rules.specs.schema.VectorScan.{after_each, after_optionals, after_prefix, are_metrics_3, base_rows_4, is_end_4, is_vector_3, is_vector_4, is_version_3, other_rows_4, threat_rows_4, urgencies_4}
use Rattle.rustsec_osv_rules.specs.schema.Vectors.{AreFields, IsField, IsFieldIfAny, IsVector3, IsVector4, joined}
use Rattle.rustsec_osv_rules.proofs.schema.FieldLists.{metrics-3, metrics-3-kept}
use Rattle.rustsec_osv_rules.proofs.schema.Fields.{field_of, has, made-from, made-has, or-cases}
use Rattle.rustsec_osv_rules.proofs.schema.FieldsInOrder.{AreThere, BeginsWithNone, are_apart, each-complete, each-sound, is_apart, is_lettered, joined-slashed, nothing-begins, optionals-complete, optionals-sound, other-begins, prefix-complete, prefix-sound, row_of, slashed, there}

-- ---- CVSS 3

version-sound : (version text : List ℕ) → is_version_3 version text ≡ true → (rest : List ℕ) × AreFields metrics_3 rest × (text ≡ version ++ rest)
version-sound version text h = of (after_prefix version text) refl h
  where
    of : (o : Option (List ℕ)) → after_prefix version text ≡ o → unwrap_or (option_map are_metrics_3 o) false ≡ true
        → (rest : List ℕ) × AreFields metrics_3 rest × (text ≡ version ++ rest)
    of None e h = cc h
    of (Some rest) e h = (rest, metrics-3 rest h, prefix-sound version text rest e)

version-complete : (version rest : List ℕ) → AreFields metrics_3 rest → is_version_3 version (version ++ rest) ≡ true
version-complete version rest f = rw (prefix-complete version rest) (metrics-3-kept rest f)

pub vector-3 : (text : List ℕ) → is_vector_3 text ≡ true → IsVector3 text
vector-3 text h = elim (or-cases (is_version_3 (codes "CVSS:3.0/") text) (is_version_3 (codes "CVSS:3.1/") text) h) [
  | inl e ↦ let v = version-sound (codes "CVSS:3.0/") text e in
      record { label = codes "CVSS:3.0"; is_label = inl refl; fields = v.0; are_fields = v.1; is = v.2 }
  | inr e ↦ let v = version-sound (codes "CVSS:3.1/") text e in
      record { label = codes "CVSS:3.1"; is_label = inr refl; fields = v.0; are_fields = v.1; is = v.2 }
]

pub vector-3-kept : (text : List ℕ) → IsVector3 text → is_vector_3 text ≡ true
vector-3-kept text v = elim v.is_label [
  | inl e ↦ subst (λ (t : List ℕ). is_vector_3 t ≡ true) (sym (v.is ∙ ap (λ (l : List ℕ). joined (l ∷ v.fields ∷ [])) e))
      (or_left (is_version_3 (codes "CVSS:3.0/") (codes "CVSS:3.0/" ++ v.fields)) _ (version-complete (codes "CVSS:3.0/") v.fields v.are_fields))
  | inr e ↦ subst (λ (t : List ℕ). is_vector_3 t ≡ true) (sym (v.is ∙ ap (λ (l : List ℕ). joined (l ∷ v.fields ∷ [])) e))
      (or_right (is_version_3 (codes "CVSS:3.0/") (codes "CVSS:3.1/" ++ v.fields)) _ (version-complete (codes "CVSS:3.1/") v.fields v.are_fields))
]

-- ---- CVSS 4: the tables

-- the last metric, whose values are words, and those before it
urgency : Metric
urgency = metric (codes "U") (codes "X Clear Green Amber Red")

lettered : List Metric
unfolding other_metrics_4
lettered = take 20 other_metrics_4

tables : other_metrics_4 ≡ lettered ++ (urgency ∷ [])
unfolding lettered urgency other_metrics_4
tables = refl

base-rows : base_rows_4 ≡ map row_of base_metrics_4
unfolding base_rows_4 base_metrics_4
base-rows = refl

base-lettered : list_all is_lettered base_metrics_4 ≡ true
unfolding base_metrics_4
base-lettered = refl

all-rows : (threat_rows_4 ++ other_rows_4) ≡ map row_of lettered
unfolding threat_rows_4 other_rows_4 lettered other_metrics_4
all-rows = refl

all-lettered : list_all is_lettered lettered ≡ true
unfolding lettered other_metrics_4
all-lettered = refl

all-apart : are_apart lettered ≡ true
unfolding lettered other_metrics_4
all-apart = refl

last-apart : list_all (λ m. is_apart m urgency) lettered ≡ true
unfolding lettered urgency other_metrics_4
last-apart = refl

-- an urgency with its slash
with-slash : List ℕ → List ℕ
with-slash v = 47 ∷ field_of urgency v

words : urgencies_4 ≡ [] ∷ map with-slash urgency.values
unfolding urgency with-slash urgencies_4
words = refl

-- ---- the end of a vector

-- the urgency, or nothing
AtEnd : List ℕ → Type 0
AtEnd rest = (o : Option (List ℕ)) × IsFieldIfAny urgency o × (rest ≡ slashed (there (o ∷ [])))

end-sound : (rest : List ℕ) → is_one_of urgencies_4 rest ≡ true → AtEnd rest
unfolding AtEnd with-slash
end-sound rest h =
    elim (or-cases (bytes_eq rest []) (has (map with-slash urgency.values) rest) (subst (λ (ws : List (List ℕ)). is_one_of ws rest ≡ true) words h)) [
      | inl e ↦ (None, tt, (bytes_decides rest []).0 e)
      | inr e ↦ let of = made-from with-slash urgency.values rest e in (
        Some (field_of urgency of.0),
        record { value = of.0; is_listed = of.1; is = refl },
        of.2 ∙ sym (append-nil (with-slash of.0)),
      )
    ]

end-complete : (o : Option (List ℕ)) → IsFieldIfAny urgency o → is_one_of urgencies_4 (slashed (there (o ∷ []))) ≡ true
unfolding with-slash
end-complete None h = subst (λ (ws : List (List ℕ)). is_one_of ws [] ≡ true) (sym words) refl
end-complete (Some f) h =
    let text : slashed (f ∷ []) ≡ with-slash h.value = append-nil (47 ∷ f) ∙ ap (λ (x : List ℕ). 47 ∷ x) h.is in
    subst (λ (t : List ℕ). is_one_of urgencies_4 t ≡ true) (sym text) (subst (λ (ws : List (List ℕ)). is_one_of ws (with-slash h.value) ≡ true) (sym words)
    (or_right (bytes_eq (with-slash h.value) []) _ (made-has with-slash urgency.values h.value h.is_listed)))

end-begins : (o : Option (List ℕ)) → IsFieldIfAny urgency o → BeginsWithNone lettered (slashed (there (o ∷ [])))
end-begins None h = nothing-begins lettered
end-begins (Some f) h = other-begins lettered urgency last-apart f h []

-- ---- a list of metrics and the last one

zip-push : {A B : Type 0} (R : A → B → Type 0) (xs : List A) (ys : List B) (x : A) (y : B) → AllZip R xs ys → R x y → AllZip R (xs ++ (x ∷ [])) (ys ++ (y ∷ []))
zip-push R [] [] x y z r = (r, tt)
zip-push R [] (b ∷ ys) x y z r = absurd z
zip-push R (a ∷ xs) [] x y z r = absurd z
zip-push R (a ∷ xs) (b ∷ ys) x y z r = (z.0, zip-push R xs ys x y z.1 r)

zip-pop : {A B : Type 0} (R : A → B → Type 0) (xs : List A) (x : A) (ys : List B) → AllZip R (xs ++ (x ∷ [])) ys
    → (front : List B) × (y : B) × AllZip R xs front × R x y × (ys ≡ front ++ (y ∷ []))
zip-pop R [] x [] z = absurd z
zip-pop R [] x (y ∷ []) z = ([], y, tt, z.0, refl)
zip-pop R [] x (y ∷ w ∷ ys) z = absurd z.1
zip-pop R (a ∷ xs) x [] z = absurd z
zip-pop R (a ∷ xs) x (b ∷ ys) z = let p = zip-pop R xs x ys z.1 in (b ∷ p.0, p.1, (z.0, p.2), p.3, ap (λ l. b ∷ l) p.4)

optionals-append : (xs ys : List (List ℕ × List ℕ)) (text : List ℕ) → after_optionals (xs ++ ys) text ≡ after_optionals ys (after_optionals xs text)
optionals-append [] ys text = refl
optionals-append (x ∷ xs) ys text = optionals-append xs ys _

-- the text of all fields, piece by piece
whole-text : (base : List (List ℕ)) (os : List (Option (List ℕ))) (o : Option (List ℕ))
    → joined (codes "CVSS:4.0" ∷ (base ++ there (os ++ (o ∷ [])))) ≡ codes "CVSS:4.0" ++ (slashed base ++ (slashed (there os) ++ slashed (there (o ∷ []))))
whole-text base os o =
    joined-slashed (codes "CVSS:4.0") (base ++ there (os ++ (o ∷ [])))
    ∙ ap (λ t. codes "CVSS:4.0" ++ t) (flat_map-append (λ f. 47 ∷ f) base (there (os ++ (o ∷ [])))
    ∙ ap (λ t. slashed base ++ t) (ap slashed (filter_map-append (λ x. x) os (o ∷ []))
    ∙ flat_map-append (λ f. 47 ∷ f) (there os) (there (o ∷ []))))

-- ---- the vector

-- the metrics that may be left out, in the scan
left : List ℕ → List ℕ
left text = after_optionals (map row_of lettered) text

left-is : (text : List ℕ) → after_optionals other_rows_4 (after_optionals threat_rows_4 text) ≡ left text
unfolding left
left-is text = sym (optionals-append threat_rows_4 other_rows_4 text) ∙ ap (λ rows. after_optionals rows text) all-rows

vector-from : (base : List (List ℕ)) (r : List ℕ) → AllZip IsField base_metrics_4 base → AreThere lettered r (left r) → AtEnd (left r)
    → (text : List ℕ) → text ≡ codes "CVSS:4.0" ++ (slashed base ++ r) → IsVector4 text
unfolding AtEnd
vector-from base r are_base some end text e = record {
  base = base;
  are_base = are_base;
  others = some.0 ++ (end.0 ∷ []);
  are_others = subst (λ (ms : List Metric). AllZip IsFieldIfAny ms (some.0 ++ (end.0 ∷ []))) (sym tables)
      (zip-push IsFieldIfAny lettered some.0 urgency end.0 some.1 end.1);
  is = e ∙ ap (λ t. codes "CVSS:4.0" ++ (slashed base ++ t)) (some.2 ∙ ap (λ t. slashed (there some.0) ++ t) end.2) ∙ sym (whole-text base some.0 end.0);
}

pub vector-4 : (text : List ℕ) → is_vector_4 text ≡ true → IsVector4 text
unfolding left
vector-4 text h = of (after_prefix (codes "CVSS:4.0") text) refl h
  where
    from : (rest : List ℕ) → after_prefix (codes "CVSS:4.0") text ≡ Some rest → (o : Option (List ℕ)) → after_each base_rows_4 rest ≡ o
        → unwrap_or (option_map is_end_4 o) false ≡ true → IsVector4 text
    from rest p None e h = cc h
    from rest p (Some r) e h =
        let base = each-sound base_metrics_4 base-lettered rest r (subst (λ rows. after_each rows rest ≡ Some r) base-rows e) in
        vector-from base.0 r base.1 (optionals-sound lettered all-lettered r) (end-sound (left r) (subst (λ (t : List ℕ). is_one_of urgencies_4 t ≡ true) (left-is r) h))
        text (prefix-sound (codes "CVSS:4.0") text rest p ∙ ap (λ t. codes "CVSS:4.0" ++ t) base.2)

    of : (o : Option (List ℕ)) → after_prefix (codes "CVSS:4.0") text ≡ o
        → unwrap_or (option_map is_end_4 (option_and_then (after_each base_rows_4) o)) false ≡ true → IsVector4 text
    of None e h = cc h
    of (Some rest) e h = from rest e (after_each base_rows_4 rest) refl h

pub vector-4-kept : (text : List ℕ) → IsVector4 text → is_vector_4 text ≡ true
unfolding left
vector-4-kept text v =
    let others = zip-pop IsFieldIfAny lettered urgency v.others (subst (λ (ms : List Metric). AllZip IsFieldIfAny ms v.others) tables v.are_others) in
    let end = slashed (there (others.1 ∷ [])) in
    let r = slashed (there others.0) ++ end in
    let rest = slashed v.base ++ r in
    let is : text ≡ codes "CVSS:4.0" ++ rest =
    v.is ∙ ap (λ os. joined (codes "CVSS:4.0" ∷ (v.base ++ there os))) others.4 ∙ whole-text v.base others.0 others.1 in
    let after : after_each base_rows_4 rest ≡ Some r =
    subst (λ rows. after_each rows rest ≡ Some r) (sym base-rows) (each-complete base_metrics_4 base-lettered v.base v.are_base r) in
    let ended : after_optionals other_rows_4 (after_optionals threat_rows_4 r) ≡ end =
    left-is r ∙ optionals-complete lettered all-lettered all-apart others.0 others.2 end (end-begins others.1 others.3) in
    ap is_vector_4 is
    ∙ ap (λ o. unwrap_or (option_map is_end_4 (option_and_then (after_each base_rows_4) o)) false) (prefix-complete (codes "CVSS:4.0") rest)
    ∙ ap (λ o. unwrap_or (option_map is_end_4 o) false) after ∙ ap (is_one_of urgencies_4) ended ∙ end-complete others.1 others.3
