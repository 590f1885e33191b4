-- If each path has one answer, each command has one output.
use Rattle.std.proofs.Common.{◌≡◌, ◌≢◌, ◌∙◌, ℕ, List, [], ◌∷◌, Option, None, Some, true, ap, inl, inr, refl, subst, sym}
use Rattle.std.specs.Prelude.{flat_map}
use Rattle.std.specs.Str.{is_utf8}
use Rattle.rustsec_values.specs.Failure.{Failure}
use Rattle.rustsec_values.specs.declared.error.ErrorKind.TheVariants as kind
use Rattle.rustsec_files.specs.Allowed.{Allowed, AnswersOnce}
use Rattle.rustsec_files.specs.Listed.{Pairwise}
use Rattle.rustsec_lock.specs.Lockfile.{AreValid}
use Rattle.rustsec_check.proofs.OneCheck.{one_check}
use Rattle.rustsec_check.proofs.MoreYanked.{one_yanked}
use Rattle.rustsec_check.specs.Values.{SubjectValue, YankedValue}
use Rattle.rustsec_registry.specs.declared.index.yanked.YankedPackages.{YankedPackages}
use Rattle.rustsec_check_output.specs.CheckTree.{WrittenValue}
use Rattle.rustsec_commands.specs.Output.{Output}
use Rattle.rustsec_json.specs.Lines.{tree_line}
use Rattle.rustsec_page.proofs.Once.{page_once}
use Rattle.rustsec_toml.proofs.Once.{packages-once}
use Rattle.rustsec_toml.specs.Places.{skip_mark}
use Rattle.rustsec_sarif.specs.SarifTree.{sarif_tree}
use Rattle.rustsec_commands.proofs.lemmas.Once.{one-output-of}
use Rattle.rustsec_program.specs.Check.{AreAnswers, AreAnswersTo, IsCheckOutput, IsCheckRefusal, IsCheckResult, IsManyOutput, IsManyRefusal, answered, checked, misused, misused_many, names_none, paths_of, refused, refused_many, separator, worst}
use Rattle.rustsec_program.specs.CheckOptions.{CheckOption, options_of}
use Rattle.rustsec_program.specs.Checked.{AreYankedIf, BasisValue, Form, FoundValue, Ground, IsAnswer, IsCheckedOutput, IsCheckedRefusal, IsFound, IsLockfileOutput, IsOutputFor, IsWrittenText, basis_of, form_of, is_empty, line, places_of, subject_of, written_of}
use Rattle.rustsec_program.specs.Checked as one
use Rattle.rustsec_program.specs.Commands.{HaveOneOutput, IsOutputOf, IsOwnOutput, reads_input, reads_input_of}
use Rattle.rustsec_program.specs.Explain.{IsExplainOutput, IsExplainRefusal, IsExplained, pairs_output}
use Rattle.rustsec_program.specs.Explain as explanation
use Rattle.rustsec_program.specs.Locked.{LoadedValue}
use Rattle.rustsec_program.proofs.ManyLines.{Answers}
use Rattle.rustsec_program.specs.Words.{Command, check, command_of, explain, many, short}
use Rattle.rustsec_program.proofs.OneReading.{ground-once, ground-or-refused, ground-refused-once, line-same, load-refused-once, loaded-once, loaded-or-refused, locked-valid, lockfile-once, lockfile-or-refused, lockfile-refused-once, none-or-some, one-value, real, same-refusal, true-or-false}

module _ (allowed : Allowed) (once : AnswersOnce allowed) where
  -- ---- one lockfile

  yanked-found-once : (s : SubjectValue) (y : Option YankedPackages) (a b : Option (List YankedValue)) → AreYankedIf s y a → AreYankedIf s y b → a ≡ b
  yanked-found-once s None a b h k = h ∙ sym k
  yanked-found-once s (Some y) a b (ys, (h, is)) (zs, (k, also)) = is ∙ (ap Some (one_yanked s y.packages ys zs h k) ∙ sym also)

  found-once : (g : Ground) (l : LoadedValue) (a b : FoundValue) → AreValid l.locked.packages → IsFound g l a → IsFound g l b → a ≡ b
  found-once g l a b valid h k =
      let check : a.check ≡ b.check = one_check (subject_of g l) b.check a.check valid k.check h.check in
      let yanked : a.yanked ≡ b.yanked = yanked-found-once (subject_of g l) l.yanked a.yanked b.yanked h.yanked k.yanked in
      λ i. record { check = check i; yanked = yanked i }

  text-once-for : (form : Form) (lock : List ℕ) (w : WrittenValue) (t u : List ℕ) → IsWrittenText form lock w t → IsWrittenText form lock w u → t ≡ u
  text-once-for (one.text colored) lock w t u h k = h ∙ sym k
  text-once-for one.json lock w t u h k = h ∙ sym k
  text-once-for (one.sarif path) lock w t u (ps, (are, h)) (qs, (also, k)) =
      h ∙ (ap (λ places. tree_line (sarif_tree path places w)) (packages-once (skip_mark lock) ps qs are also) ∙ sym k)
  text-once-for one.html lock w t u h k = page_once w t u h k
  text-once-for one.markdown lock w t u h k = h ∙ sym k
  text-once-for (one.line path) lock w t u h k = h ∙ sym k

  output-once-for : (form : Form) (b : BasisValue) (l : LoadedValue) (f : FoundValue) (o p : Output) → IsOutputFor form b l f o → IsOutputFor form b l f p → o ≡ p
  output-once-for form b l f o p h k =
      let text : o.text ≡ p.text = text-once-for form l.locked.text (written_of b l f) o.text p.text h.text k.text in
      let status : o.status ≡ p.status = h.status ∙ sym k.status in
      λ i. record { text = text i; status = status i }

  checked-once : (form : Form) (g : Ground) (l : LoadedValue) (o p : Output) → AreValid l.locked.packages → IsCheckedOutput form g l o
      → IsCheckedOutput form g l p → o ≡ p
  checked-once form g l o p valid h k =
      let same = found-once g l h.found k.found valid h.is_found k.is_found in
      output-once-for form (basis_of g) l k.found o p (subst (λ (f : FoundValue). IsOutputFor form (basis_of g) l f o) same h.is_output) k.is_output

  lockfile-output-once : (form : Form) (g : Ground) (path : List ℕ) (o p : Output) → IsLockfileOutput allowed form g path o
      → IsLockfileOutput allowed form g path p → o ≡ p
  lockfile-output-once form g path o p (l, (at, h)) (m, (there, k)) =
      let same = loaded-once allowed once (places_of g.plan path) l m at there in
      checked-once form g m o p (locked-valid allowed once path m.locked there.locked) (subst (λ (x : LoadedValue). IsCheckedOutput form g x o) same h) k

  output-or-refused : {P : Type 0} (form : Form) (g : Ground) (path : List ℕ) (o : Output) (e : Failure) → e.kind ≢ kind.OutOfMemory
      → IsLockfileOutput allowed form g path o → IsCheckedRefusal allowed g path e → P
  output-or-refused form g path o e u (l, (at, h)) (inl k) = loaded-or-refused allowed once (places_of g.plan path) l e u at k
  output-or-refused form g path o e u (l, (at, h)) (inr (m, (there, k))) =
      let same = loaded-once allowed once (places_of g.plan path) m l there at in
      true-or-false (is_empty (basis_of g) l) (subst (λ (x : LoadedValue). is_empty (basis_of g) x ≡ true) same (real kind.NotFound e u k).1) h.is_not_empty

  checked-refused-once : (g : Ground) (path : List ℕ) (e f : Failure) → e.kind ≢ kind.OutOfMemory → f.kind ≢ kind.OutOfMemory
      → IsCheckedRefusal allowed g path e → IsCheckedRefusal allowed g path f → e.kind ≡ f.kind
  checked-refused-once g path e f u v (inl h) (inl k) = load-refused-once allowed once (places_of g.plan path) e f u v h k
  checked-refused-once g path e f u v (inl h) (inr (m, (there, k))) = loaded-or-refused allowed once (places_of g.plan path) m e u there h
  checked-refused-once g path e f u v (inr (l, (at, h))) (inl k) = loaded-or-refused allowed once (places_of g.plan path) l f v at k
  checked-refused-once g path e f u v (inr (l, (at, h))) (inr (m, (there, k))) = (real kind.NotFound e u h).0 ∙ sym (real kind.NotFound f v k).0

  -- ---- check

  result-or-refused : {P : Type 0} (root lock : List ℕ) (options : List CheckOption) (o : Output) (e : Failure) → e.kind ≢ kind.OutOfMemory
      → IsCheckResult allowed root lock options o → IsCheckRefusal allowed root lock options e → P
  result-or-refused root lock options o e u (g, (ground, h)) (inl k) = ground-or-refused allowed once root options g e u ground k
  result-or-refused root lock options o e u (g, (ground, h)) (inr (other, (again, k))) =
      let same = ground-once allowed once root options other g again ground in
      output-or-refused (form_of g.plan lock) g lock o e u h (subst (λ (x : Ground). IsCheckedRefusal allowed x lock e) same k)

  result-once : (root lock : List ℕ) (options : List CheckOption) (o p : Output) → IsCheckResult allowed root lock options o
      → IsCheckResult allowed root lock options p → o ≡ p
  result-once root lock options o p (g, (ground, h)) (other, (again, k)) =
      let same = ground-once allowed once root options g other ground again in
      lockfile-output-once (form_of other.plan lock) other lock o p (subst (λ (x : Ground). IsLockfileOutput allowed (form_of x.plan lock) x lock o) same h) k

  check-refused-once : (root lock : List ℕ) (options : List CheckOption) (e f : Failure) → e.kind ≢ kind.OutOfMemory → f.kind ≢ kind.OutOfMemory
      → IsCheckRefusal allowed root lock options e → IsCheckRefusal allowed root lock options f → e.kind ≡ f.kind
  check-refused-once root lock options e f u v (inl h) (inl k) = ground-refused-once allowed once root options e f u v h k
  check-refused-once root lock options e f u v (inl h) (inr (g, (ground, k))) = ground-or-refused allowed once root options g e u ground h
  check-refused-once root lock options e f u v (inr (g, (ground, h))) (inl k) = ground-or-refused allowed once root options g f v ground k
  check-refused-once root lock options e f u v (inr (g, (ground, h))) (inr (other, (again, k))) =
      let same = ground-once allowed once root options g other ground again in
      checked-refused-once other lock e f u v (subst (λ (x : Ground). IsCheckedRefusal allowed x lock e) same h) k

  check-once : (root lock : List ℕ) (words : List (List ℕ)) (o p : Output) → IsCheckOutput allowed root lock words o → IsCheckOutput allowed root lock words p
      → o ≡ p
  check-once root lock words o p (misused missing is) (misused again also) = is ∙ sym also
  check-once root lock words o p (misused missing is) (checked options some k) = none-or-some (options_of words) options missing some
  check-once root lock words o p (misused missing is) (refused options e some k u also) = none-or-some (options_of words) options missing some
  check-once root lock words o p (checked options some h) (misused missing also) = none-or-some (options_of words) options missing some
  check-once root lock words o p (checked options some h) (checked others again k) =
      let same = one-value (options_of words) options others some again in
      result-once root lock others o p (subst (λ (x : List CheckOption). IsCheckResult allowed root lock x o) same h) k
  check-once root lock words o p (checked options some h) (refused others e again k u also) =
      let same = one-value (options_of words) options others some again in
      result-or-refused root lock others o e u (subst (λ (x : List CheckOption). IsCheckResult allowed root lock x o) same h) k
  check-once root lock words o p (refused options e some h u is) (misused missing also) = none-or-some (options_of words) options missing some
  check-once root lock words o p (refused options e some h u is) (checked others again k) =
      let same = one-value (options_of words) others options again some in
      result-or-refused root lock options p e u (subst (λ (x : List CheckOption). IsCheckResult allowed root lock x p) same k) h
  check-once root lock words o p (refused options e some h u is) (refused others f again k v also) =
      let same = one-value (options_of words) options others some again in
      same-refusal e f o p (check-refused-once root lock others e f u v (subst (λ (x : List CheckOption). IsCheckRefusal allowed root lock x e) same h) k) is also

  -- ---- check-many

  answer-once : (g : Ground) (path : List ℕ) (o p : Output) → IsAnswer allowed (line path) g path o → IsAnswer allowed (line path) g path p → o ≡ p
  answer-once g path o p (one.checked h) (one.checked k) = lockfile-output-once (line path) g path o p h k
  answer-once g path o p (one.checked h) (one.refused e k u also) = output-or-refused (line path) g path o e u h k
  answer-once g path o p (one.refused e h u is) (one.checked k) = output-or-refused (line path) g path p e u k h
  answer-once g path o p (one.refused e h u is) (one.refused f k v also) = line-same path e f o p (checked-refused-once g path e f u v h k) is also

  outputs-once : (g : Ground) (paths : List (List ℕ)) (os ps : List Output) → Pairwise (Answers allowed g) paths os → Pairwise (Answers allowed g) paths ps
      → os ≡ ps
  outputs-once g [] [] [] h k = refl
  outputs-once g [] [] (p ∷ ps) h k = absurd k
  outputs-once g [] (o ∷ os) ps h k = absurd h
  outputs-once g (path ∷ paths) [] ps h k = absurd h
  outputs-once g (path ∷ paths) (o ∷ os) [] h k = absurd k
  outputs-once g (path ∷ paths) (o ∷ os) (p ∷ ps) h k =
      let first = answer-once g path o p h.0 k.0 in
      let rest = outputs-once g paths os ps h.1 k.1 in
      λ i. first i ∷ rest i

  answers-once : (g : Ground) (paths : List (List ℕ)) (o p : Output) → AreAnswers allowed g paths o → AreAnswers allowed g paths p → o ≡ p
  answers-once g paths o p h k =
      let same = outputs-once g paths h.outputs k.outputs h.each k.each in
      let text : o.text ≡ p.text = h.text ∙ (ap (λ os. flat_map (λ (x : Output). x.text) os) same ∙ sym k.text) in
      let status : o.status ≡ p.status = h.status ∙ (ap worst same ∙ sym k.status) in
      λ i. record { text = text i; status = status i }

  list-or-refused : {P : Type 0} (root : List ℕ) (options : List CheckOption) (input : List ℕ) (o : Output) (e : Failure) → e.kind ≢ kind.OutOfMemory
      → AreAnswersTo allowed root options input o → IsManyRefusal allowed root options input e → P
  list-or-refused root options input o e u (g, (ground, ((utf8, some), h))) (inl k) = true-or-false (is_utf8 input) utf8 (real kind.Parse e u k).1
  list-or-refused root options input o e u (g, (ground, ((utf8, some), h))) (inr (inl k)) =
      true-or-false (names_none options input) (real kind.NotFound e u k).1.1 some
  list-or-refused root options input o e u (g, (ground, (list, h))) (inr (inr (also, k))) = ground-or-refused allowed once root options g e u ground k

  answers-to-once : (root : List ℕ) (options : List CheckOption) (input : List ℕ) (o p : Output) → AreAnswersTo allowed root options input o
      → AreAnswersTo allowed root options input p → o ≡ p
  answers-to-once root options input o p (g, (ground, (list, h))) (other, (again, (also, k))) =
      let same = ground-once allowed once root options g other ground again in
      answers-once other (paths_of (separator options) input) o p
      (subst (λ (x : Ground). AreAnswers allowed x (paths_of (separator options) input) o) same h) k

  many-refused-once : (root : List ℕ) (options : List CheckOption) (input : List ℕ) (e f : Failure) → e.kind ≢ kind.OutOfMemory
      → f.kind ≢ kind.OutOfMemory → IsManyRefusal allowed root options input e → IsManyRefusal allowed root options input f → e.kind ≡ f.kind
  many-refused-once root options input e f u v (inl h) (inl k) = (real kind.Parse e u h).0 ∙ sym (real kind.Parse f v k).0
  many-refused-once root options input e f u v (inl h) (inr (inl k)) = true-or-false (is_utf8 input) (real kind.NotFound f v k).1.0 (real kind.Parse e u h).1
  many-refused-once root options input e f u v (inl h) (inr (inr (list, k))) = true-or-false (is_utf8 input) list.0 (real kind.Parse e u h).1
  many-refused-once root options input e f u v (inr (inl h)) (inl k) = true-or-false (is_utf8 input) (real kind.NotFound e u h).1.0 (real kind.Parse f v k).1
  many-refused-once root options input e f u v (inr (inl h)) (inr (inl k)) = (real kind.NotFound e u h).0 ∙ sym (real kind.NotFound f v k).0
  many-refused-once root options input e f u v (inr (inl h)) (inr (inr (list, k))) =
      true-or-false (names_none options input) (real kind.NotFound e u h).1.1 list.1
  many-refused-once root options input e f u v (inr (inr (list, h))) (inl k) = true-or-false (is_utf8 input) list.0 (real kind.Parse f v k).1
  many-refused-once root options input e f u v (inr (inr (list, h))) (inr (inl k)) =
      true-or-false (names_none options input) (real kind.NotFound f v k).1.1 list.1
  many-refused-once root options input e f u v (inr (inr (list, h))) (inr (inr (also, k))) = ground-refused-once allowed once root options e f u v h k

  many-once : (root : List ℕ) (words : List (List ℕ)) (input : List ℕ) (o p : Output) → IsManyOutput allowed root words input o
      → IsManyOutput allowed root words input p → o ≡ p
  many-once root words input o p (misused_many missing is) (misused_many again also) = is ∙ sym also
  many-once root words input o p (misused_many missing is) (answered options some k) = none-or-some (options_of words) options missing some
  many-once root words input o p (misused_many missing is) (refused_many options e some k u also) = none-or-some (options_of words) options missing some
  many-once root words input o p (answered options some h) (misused_many missing also) = none-or-some (options_of words) options missing some
  many-once root words input o p (answered options some h) (answered others again k) =
      let same = one-value (options_of words) options others some again in
      answers-to-once root others input o p (subst (λ (x : List CheckOption). AreAnswersTo allowed root x input o) same h) k
  many-once root words input o p (answered options some h) (refused_many others e again k u also) =
      let same = one-value (options_of words) options others some again in
      list-or-refused root others input o e u (subst (λ (x : List CheckOption). AreAnswersTo allowed root x input o) same h) k
  many-once root words input o p (refused_many options e some h u is) (misused_many missing also) = none-or-some (options_of words) options missing some
  many-once root words input o p (refused_many options e some h u is) (answered others again k) =
      let same = one-value (options_of words) others options again some in
      list-or-refused root options input p e u (subst (λ (x : List CheckOption). AreAnswersTo allowed root x input p) same k) h
  many-once root words input o p (refused_many options e some h u is) (refused_many others f again k v also) =
      let same = one-value (options_of words) options others some again in
      same-refusal e f o p (many-refused-once root others input e f u v (subst (λ (x : List CheckOption). IsManyRefusal allowed root x input e) same h) k) is also

  -- ---- explain

  explained-or-refused : {P : Type 0} (root lock text : List ℕ) (options : List CheckOption) (o : Output) (e : Failure) → e.kind ≢ kind.OutOfMemory
      → IsExplained allowed root lock text options o → IsExplainRefusal allowed root lock options e → P
  explained-or-refused root lock text options o e u (g, (ground, (ps, (at, is)))) (inl k) = ground-or-refused allowed once root options g e u ground k
  explained-or-refused root lock text options o e u (g, (ground, (ps, (at, is)))) (inr (some, k)) = lockfile-or-refused allowed once lock ps e u at k

  explained-once : (root lock text : List ℕ) (options : List CheckOption) (o p : Output) → IsExplained allowed root lock text options o
      → IsExplained allowed root lock text options p → o ≡ p
  explained-once root lock text options o p (g, (ground, (ps, (at, is)))) (other, (again, (qs, (there, also)))) =
      let same = ground-once allowed once root options g other ground again in
      let packages = lockfile-once allowed once lock ps qs at there in
      let step : pairs_output g ps text ≡ pairs_output other qs text = λ i. pairs_output (same i) (packages i) text in
      is ∙ (step ∙ sym also)

  explain-refused-once : (root lock : List ℕ) (options : List CheckOption) (e f : Failure) → e.kind ≢ kind.OutOfMemory → f.kind ≢ kind.OutOfMemory
      → IsExplainRefusal allowed root lock options e → IsExplainRefusal allowed root lock options f → e.kind ≡ f.kind
  explain-refused-once root lock options e f u v (inl h) (inl k) = ground-refused-once allowed once root options e f u v h k
  explain-refused-once root lock options e f u v (inl h) (inr ((g, ground), k)) = ground-or-refused allowed once root options g e u ground h
  explain-refused-once root lock options e f u v (inr ((g, ground), h)) (inl k) = ground-or-refused allowed once root options g f v ground k
  explain-refused-once root lock options e f u v (inr (some, h)) (inr (other, k)) = lockfile-refused-once allowed once lock e f u v h k

  explain-once : (root lock text : List ℕ) (words : List (List ℕ)) (o p : Output) → IsExplainOutput allowed root lock text words o
      → IsExplainOutput allowed root lock text words p → o ≡ p
  explain-once root lock text words o p (explanation.misused missing is) (explanation.misused again also) = is ∙ sym also
  explain-once root lock text words o p (explanation.misused missing is) (explanation.explained options some k) = none-or-some (options_of words) options missing some
  explain-once root lock text words o p (explanation.misused missing is) (explanation.refused options e some k u also) = none-or-some (options_of words) options missing some
  explain-once root lock text words o p (explanation.explained options some h) (explanation.misused missing also) = none-or-some (options_of words) options missing some
  explain-once root lock text words o p (explanation.explained options some h) (explanation.explained others again k) =
      let same = one-value (options_of words) options others some again in
      explained-once root lock text others o p (subst (λ (x : List CheckOption). IsExplained allowed root lock text x o) same h) k
  explain-once root lock text words o p (explanation.explained options some h) (explanation.refused others e again k u also) =
      let same = one-value (options_of words) options others some again in
      explained-or-refused root lock text others o e u (subst (λ (x : List CheckOption). IsExplained allowed root lock text x o) same h) k
  explain-once root lock text words o p (explanation.refused options e some h u is) (explanation.misused missing also) = none-or-some (options_of words) options missing some
  explain-once root lock text words o p (explanation.refused options e some h u is) (explanation.explained others again k) =
      let same = one-value (options_of words) others options again some in
      explained-or-refused root lock text options p e u (subst (λ (x : List CheckOption). IsExplained allowed root lock text x p) same k) h
  explain-once root lock text words o p (explanation.refused options e some h u is) (explanation.refused others f again k v also) =
      let same = one-value (options_of words) options others some again in
      same-refusal e f o p (explain-refused-once root lock others e f u v (subst (λ (x : List CheckOption). IsExplainRefusal allowed root lock x e) same h) k)
      is also

  -- ---- all commands

  own-once : (c : Command) (input : Option (List ℕ)) → (reads_input c ≡ true → input ≢ None) → (o p : Output) → IsOwnOutput allowed c input o
      → IsOwnOutput allowed c input p → o ≡ p
  own-once (check root lock options) input is o p h k = check-once root lock options o p h k
  own-once (many root options) None is o p h k = absurd (is refl refl)
  own-once (many root options) (Some bytes) is o p h k = many-once root options bytes o p h k
  own-once (explain root lock text options) input is o p h k = explain-once root lock text options o p h k
  own-once short input is o p h k = h ∙ sym k

  output-once : (words : List (List ℕ)) (c : Option Command) (input : Option (List ℕ)) → (reads_input_of words c ≡ true → input ≢ None) → (o p : Output)
      → IsOutputOf allowed words c input o → IsOutputOf allowed words c input p → o ≡ p
  output-once words (Some c) input is o p h k = own-once c input is o p h k
  output-once words None input is o p h k = one-output-of allowed words input once is o p h k

pub one_output : (allowed : Allowed) (words : List (List ℕ)) (input : Option (List ℕ)) → AnswersOnce allowed → HaveOneOutput allowed words input
one_output allowed words input once is o p h k = output-once allowed once words (command_of words) input is o p h k
