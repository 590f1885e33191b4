-- From a plan, and what is made by it over folders that allow the same as before, to outputs and refusals of commands.
use Rattle.std.proofs.Common.{◌≡◌, ◌≢◌, ◌⊎◌, ◌∙◌, ℕ, Err, List, Ok, Option, None, Result, Some, ap, inl, inr, sym, subst, take, true, false, true≢false}
use Rattle.std.specs.Io.KnownBytes.{Appends, Keeps}
use Rattle.std.specs.Prelude.{IfOk, IfSome, IsOkAnd}
use Rattle.std.specs.declared.alloc.AllocError.{AllocError}
use Rattle.std.specs.Str.{is_utf8}
use Rattle.rustsec_values.specs.Failure.{Failure, IsRefusal}
use Rattle.rustsec_values.specs.declared.error.ErrorKind.TheVariants as kind
use Rattle.rustsec_values.proofs.Refusals.{refused_by}
use Rattle.rustsec_files.specs.Allowed.{Allowed, AllowSame}
use Rattle.rustsec_files.proofs.Lists.{pairwise-weaker}
use Rattle.rustsec_advisory.specs.declared.advisory.Advisory.{Advisory}
use Rattle.rustsec_database.specs.Opened.{AreOpened, IsOpenRefusal}
use Rattle.rustsec_commands.specs.Commands as old
use Rattle.rustsec_commands.specs.Output.{Output, refused_as}
use Rattle.rustsec_program.specs.Check.{AreAnswers, IsCheckRefusal, IsCheckResult, IsList, IsManyOutput, IsManyRefusal, answered, names_none, paths_of, refused_many, separator}
use Rattle.rustsec_program.specs.CheckOptions.{CheckOption, options_of}
use Rattle.rustsec_program.specs.Checked.{Ground, IsCheckedRefusal, IsLockfileOutput, form_of, line}
use Rattle.rustsec_program.specs.Commands.{Carries, IsOutputOf, IsOwnOutput, reads_input, reads_input_of, words_read_input}
use Rattle.rustsec_program.specs.Explain.{IsExplainRefusal, IsExplained, pairs_output}
use Rattle.rustsec_program.specs.Plan.{IsPlan, PlanValue}
use Rattle.rustsec_lock.specs.Lockfile.{IsLockfileAt, IsLockfileRefusal}
use Rattle.rustsec_lock.specs.Package.{PackageValue}
use Rattle.rustsec_program.specs.Words.{Command, check, command_of, explain, many, short}
use Rattle.rustsec_program.specs.Writing.{BreaksOff, IsBrokenOff, IsPrepared, PreparedValue, Writes, WritesFirst, after_some, before_all}
use Rattle.rustsec_program.proofs.Before.{answer-before, check-refused-before, lockfile-before, lockfile-refused-before, open-refused-before, opened-before, output-before}
use Rattle.rustsec_program.proofs.ManyLines.{Answers}

-- what a plan and advisories have in common
abbrev pub ground : PlanValue → List Advisory → Ground
ground p advisories = record { plan = p; advisories = advisories }

module _ (a b : Allowed) (same : AllowSame a b) (root : List ℕ) (options : List CheckOption) (p : PlanValue) where
  -- ---- check

  pub result-of-plan : (lock : List ℕ) (o : Output) → IsPlan a options p
      → (advisories : List Advisory) × (AreOpened b root advisories × IsLockfileOutput b (form_of p lock) (ground p advisories) lock o)
      → IsCheckResult a root lock options o
  result-of-plan lock o planned (advisories, (opened, is)) =
      (ground p advisories, ((planned, opened-before a b same root advisories opened), output-before a b same (form_of p lock) (ground p advisories) lock o is))

  pub refusal-of-plan : (lock : List ℕ) (e : Failure) → IsPlan a options p
      → IsOpenRefusal b root e ⊎ ((advisories : List Advisory) × (AreOpened b root advisories × IsCheckedRefusal b (ground p advisories) lock e))
      → IsCheckRefusal a root lock options e
  refusal-of-plan lock e planned (inl h) = inl (inr ((p, planned), open-refused-before a b same root e h))
  refusal-of-plan lock e planned (inr (advisories, (opened, h))) =
      inr (ground p advisories, ((planned, opened-before a b same root advisories opened), check-refused-before a b same (ground p advisories) lock e h))

  -- ---- explain

  pub explained-by-plan : (lock text : List ℕ) (o : Output) → IsPlan a options p
      → (advisories : List Advisory) × (AreOpened b root advisories × ((packages : List PackageValue) × (IsLockfileAt b lock packages
      × (o ≡ pairs_output (ground p advisories) packages text))))
      → IsExplained a root lock text options o
  explained-by-plan lock text o planned (advisories, (opened, (packages, (locked, is)))) =
      (ground p advisories, ((planned, opened-before a b same root advisories opened), (packages, (lockfile-before a b same lock packages locked, is))))

  pub unexplained-by-plan : (lock : List ℕ) (e : Failure) → IsPlan a options p
      → IsOpenRefusal b root e ⊎ (((advisories : List Advisory) × AreOpened b root advisories) × IsLockfileRefusal b lock e)
      → IsExplainRefusal a root lock options e
  unexplained-by-plan lock e planned (inl h) = inl (inr ((p, planned), open-refused-before a b same root e h))
  unexplained-by-plan lock e planned (inr ((advisories, opened), h)) =
      inr ((ground p advisories, (planned, opened-before a b same root advisories opened)), lockfile-refused-before a b same lock e h)

-- ---- check-many

pub answers-before : (a b : Allowed) → AllowSame a b → (g : Ground) (paths : List (List ℕ)) (o : Output) → AreAnswers b g paths o → AreAnswers a g paths o
answers-before a b same g paths o h = record {
  outputs = h.outputs;
  each = pairwise-weaker (Answers b g) (Answers a g) (λ path one. answer-before a b same (line path) g path one) paths h.outputs h.each;
  text = h.text;
  status = h.status;
}

-- the paths of a list, by its text
pub paths-in : (options : List CheckOption) (text input : List ℕ) (paths : List (List ℕ)) → paths ≡ paths_of (separator options) text → text ≡ input
    → paths ≡ paths_of (separator options) input
paths-in options text input paths paths_are text_is = paths_are ∙ ap (λ (t : List ℕ). paths_of (separator options) t) text_is

-- a list of lockfiles, by its text
pub is-list : (options : List CheckOption) (text input : List ℕ) → text ≡ input → is_utf8 input ≡ true → names_none options text ≡ false
    → IsList options input
is-list options text input is utf8 some = (utf8, subst (λ t. names_none options t ≡ false) is some)

-- and one that names no lockfile
pub none-listed : (options : List CheckOption) (text input : List ℕ) → text ≡ input → is_utf8 input ≡ true → (e : Failure)
    → IsRefusal kind.NotFound (names_none options text ≡ true) e
    → IsRefusal kind.NotFound ((is_utf8 input ≡ true) × (names_none options input ≡ true)) e
none-listed options text input is utf8 e h = refused_by kind.NotFound e (λ none. (utf8, subst (λ t. names_none options t ≡ true) is none)) h

-- ---- what is written

-- an output of a command of this crate
pub carried : (allowed : Allowed) (words : List (List ℕ)) (c : Command) (input : Option (List ℕ)) (o : Output) (status : ℕ) (before after : Option (List ℕ))
    → command_of words ≡ Some c → IsOwnOutput allowed c input o → status ≡ o.status → Appends before after o.text
    → Carries allowed words input status before after
carried allowed words c input o status before after named is status_is text = record {
  output = o;
  is_output = subst (λ k. IsOutputOf allowed words k input o) (sym named) is;
  status_is = status_is;
  text = text;
}

-- a command that does not read the input has the same outputs for any input
pub of-any-input : (allowed : Allowed) (c : Command) (input : Option (List ℕ)) (o : Output) → reads_input c ≡ false → IsOwnOutput allowed c None o
    → IsOwnOutput allowed c input o
of-any-input allowed (check root lock options) input o unread h = h
of-any-input allowed (many root options) input o unread h = absurd (true≢false unread)
of-any-input allowed (explain root lock text options) input o unread h = h
of-any-input allowed short input o unread h = h

-- and breaks off with nothing written
pub nothing-written : (allowed : Allowed) (c : Command) (input before after : Option (List ℕ)) → reads_input c ≡ false → Keeps before after
    → IsBrokenOff allowed (Some c) input before after
unfolding IsBrokenOff
nothing-written allowed (check root lock options) input before after unread h = h
nothing-written allowed (many root options) input before after unread h = absurd (true≢false unread)
nothing-written allowed (explain root lock text options) input before after unread h = h
nothing-written allowed short input before after unread h = h

-- the same for words
pub nothing-written-for : (allowed : Allowed) (words : List (List ℕ)) (c : Command) (input before after : Option (List ℕ)) → command_of words ≡ Some c
    → reads_input c ≡ false → Keeps before after → IsBrokenOff allowed (command_of words) input before after
nothing-written-for allowed words c input before after named unread h =
    subst (λ k. IsBrokenOff allowed k input before after) (sym named) (nothing-written allowed c input before after unread h)

-- words that name no command of this crate
nothing-written-without : (allowed : Allowed) (input before after : Option (List ℕ)) → Keeps before after → IsBrokenOff allowed None input before after
unfolding IsBrokenOff
nothing-written-without allowed input before after h = h

pub nothing-written-before : (allowed : Allowed) (words : List (List ℕ)) (input before after : Option (List ℕ)) → command_of words ≡ None
    → Keeps before after → IsBrokenOff allowed (command_of words) input before after
nothing-written-before allowed words input before after none h =
    subst (λ k. IsBrokenOff allowed k input before after) (sym none) (nothing-written-without allowed input before after h)

-- `check-many`, with what it wrote for the bytes of its input
some-written : (allowed : Allowed) (root : List ℕ) (options : List (List ℕ)) (input before after : Option (List ℕ))
    → IfSome input (λ bytes. BreaksOff allowed root options bytes before after) → IsBrokenOff allowed (Some (many root options)) input before after
unfolding IsBrokenOff
some-written allowed root options input before after h = h

pub some-written-for : (allowed : Allowed) (words : List (List ℕ)) (root : List ℕ) (options : List (List ℕ)) (input before after : Option (List ℕ))
    → command_of words ≡ Some (many root options) → IfSome input (λ bytes. BreaksOff allowed root options bytes before after)
    → IsBrokenOff allowed (command_of words) input before after
some-written-for allowed words root options input before after named h =
    subst (λ k. IsBrokenOff allowed k input before after) (sym named) (some-written allowed root options input before after h)

-- the bytes that were read are those of the input
of-bytes : (P : List ℕ → Type 0) (input : Option (List ℕ)) (bytes : List ℕ) → IfSome input (λ xs. bytes ≡ xs) → P bytes → IfSome input P
of-bytes P None bytes is h = tt
of-bytes P (Some xs) bytes is h = subst P is h

-- the output of `check-many` for the bytes that were read
pub many-carried : (allowed : Allowed) (words : List (List ℕ)) (root : List ℕ) (options : List (List ℕ)) (input : Option (List ℕ)) (bytes : List ℕ)
    (status : ℕ) (before after : Option (List ℕ)) → command_of words ≡ Some (many root options) → IfSome input (λ xs. bytes ≡ xs)
    → Writes (IsManyOutput allowed root options bytes) status before after → Carries allowed words input status before after
many-carried allowed words root options input bytes status before after named read w =
    carried allowed words (many root options) input w.output status before after named
    (of-bytes (λ xs. IsManyOutput allowed root options xs w.output) input bytes read w.is_output) w.status_is w.text

-- and where it breaks off
pub many-broken-off : (allowed : Allowed) (words : List (List ℕ)) (root : List ℕ) (options : List (List ℕ)) (input : Option (List ℕ)) (bytes : List ℕ)
    (before after : Option (List ℕ)) → command_of words ≡ Some (many root options) → IfSome input (λ xs. bytes ≡ xs)
    → BreaksOff allowed root options bytes before after → IsBrokenOff allowed (command_of words) input before after
many-broken-off allowed words root options input bytes before after named read h =
    some-written-for allowed words root options input before after named (of-bytes (λ xs. BreaksOff allowed root options xs before after) input bytes read h)

-- an output that was made and written
pub finished-carried : (allowed : Allowed) (words : List (List ℕ)) (c : Command) (input : Option (List ℕ)) (made : Result Output AllocError) (status : ℕ)
    (before after : Option (List ℕ)) → command_of words ≡ Some c → reads_input c ≡ false → IfOk made (IsOwnOutput allowed c None)
    → IsOkAnd made (λ o. (status ≡ o.status) × Appends before after o.text) → Carries allowed words input status before after
finished-carried allowed words c input (Ok o) status before after named unread is h =
    carried allowed words c input o status before after named (of-any-input allowed c input o unread is) h.0 h.1
finished-carried allowed words c input (Err e) status before after named unread is h = absurd h

-- `check-many` reads the input
pub many-reads : (words : List (List ℕ)) (root : List ℕ) (options : List (List ℕ)) {P : Type 0} → command_of words ≡ Some (many root options)
    → words_read_input words ≡ false → P
many-reads words root options named unread = absurd (true≢false (subst (λ k. reads_input_of words k ≡ false) named unread))

-- other words read the input where `rustsec_commands` does
pub others-unread : (words : List (List ℕ)) → command_of words ≡ None → words_read_input words ≡ false → old.words_read_input words ≡ false
others-unread words none unread = subst (λ k. reads_input_of words k ≡ false) none unread

-- where the input cannot be read, nothing is written
pub unread-input : (allowed : Allowed) (root : List ℕ) (options : List (List ℕ)) (input before after : Option (List ℕ)) → Keeps before after
    → IfSome input (λ bytes. BreaksOff allowed root options bytes before after)
unread-input allowed root options None before after h = tt
unread-input allowed root options (Some bytes) before after h = before_all h

-- all lines that `check-many` was asked for
pub lines-of-all : (allowed : Allowed) (root : List ℕ) (words : List (List ℕ)) (options : List CheckOption) (input : List ℕ) (p : PreparedValue) (status : ℕ)
    (before after : Option (List ℕ)) → options_of words ≡ Some options → IsPrepared allowed root options input p
    → Writes (AreAnswers allowed p.ground p.paths) status before after → Writes (IsManyOutput allowed root words input) status before after
lines-of-all allowed root words options input p status before after named ready w = record {
  output = w.output;
  is_output = answered options named (p.ground, (ready.ground, (ready.is_list, subst (λ ps. AreAnswers allowed p.ground ps w.output) ready.paths w.is_output)));
  status_is = w.status_is;
  text = w.text;
}

-- the first of them
pub lines-of-first : (allowed : Allowed) (root : List ℕ) (words : List (List ℕ)) (options : List CheckOption) (input : List ℕ) (p : PreparedValue)
    (before after : Option (List ℕ)) → options_of words ≡ Some options → IsPrepared allowed root options input p
    → WritesFirst allowed p.ground p.paths before after → BreaksOff allowed root words input before after
lines-of-first allowed root words options input p before after named ready w = after_some options named (record {
  ground = p.ground;
  is_ground = ready.ground;
  is_list = ready.is_list;
  lines = subst (λ ps. WritesFirst allowed p.ground ps before after) ready.paths w;
})

-- the output for a refusal
pub refused-lines : (allowed : Allowed) (root : List ℕ) (words : List (List ℕ)) (options : List CheckOption) (input : List ℕ) (e : Failure) (status : ℕ)
    (before after : Option (List ℕ)) → options_of words ≡ Some options → IsManyRefusal allowed root options input e → e.kind ≢ kind.OutOfMemory
    → Writes (λ o. o ≡ refused_as e.kind) status before after → Writes (IsManyOutput allowed root words input) status before after
refused-lines allowed root words options input e status before after named refusal other w = record {
  output = w.output;
  is_output = refused_many options e named refusal other w.is_output;
  status_is = w.status_is;
  text = w.text;
}

-- the lines by what folders allow later hold by what they allowed before
pub writes-before : (a b : Allowed) → AllowSame a b → (g : Ground) (paths : List (List ℕ)) (status : ℕ) (before after : Option (List ℕ))
    → Writes (AreAnswers b g paths) status before after → Writes (AreAnswers a g paths) status before after
writes-before a b same g paths status before after w = record {
  output = w.output;
  is_output = answers-before a b same g paths w.output w.is_output;
  status_is = w.status_is;
  text = w.text;
}

pub first-before : (a b : Allowed) → AllowSame a b → (g : Ground) (paths : List (List ℕ)) (before after : Option (List ℕ))
    → WritesFirst b g paths before after → WritesFirst a g paths before after
first-before a b same g paths before after w = record {
  number = w.number;
  output = w.output;
  answers = answers-before a b same g (take w.number paths) w.output w.answers;
  text = w.text;
}

-- ---- other words

-- words that name no command of this crate
pub carried-before : (allowed : Allowed) (words : List (List ℕ)) (input : Option (List ℕ)) (status : ℕ) (before after : Option (List ℕ))
    → command_of words ≡ None → old.Carries allowed words input status before after → Carries allowed words input status before after
carried-before allowed words input status before after none c = record {
  output = c.output;
  is_output = subst (λ k. IsOutputOf allowed words k input c.output) (sym none) c.is_output;
  status_is = c.status_is;
  text = c.text;
}
