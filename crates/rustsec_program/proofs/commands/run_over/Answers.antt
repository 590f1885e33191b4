use Rattle.std.proofs.Common.{◌≡◌, ◌∙◌, IfSome, Some, ap, map, sym}
use Rattle.std.proofs.KnownBytes.{Keeps-refl}
use Rattle.std.proofs.lemmas.Result.{IfErr-weaker, IfOk-weaker}
use Rattle.rustsec_files.proofs.Same.{same-refl}
use Rattle.rustsec_program.proofs.Grounds.{carried-before, finished-carried, many-broken-off, many-carried, many-reads, nothing-written-before, nothing-written-for, others-unread, some-written-for, unread-input}
use Rattle.rustsec_program.proofs.Once.{one_output}
use Rattle.rustsec_program.proofs.commands.run_over.Goals as goal

-- ---- other words

pub returns-in-None-clause-carries : goal.returns-in-None-clause-carries
returns-in-None-clause-carries g c =
    IfOk-weaker c.run_over.result _ _ (λ s h. carried-before _ (map (λ w. w.now) c.args.words.now) (g.R.Read.remaining c.args.input.now) s _ _ (sym c.in-None.ensures) h) c.run_over.ensures.carries

pub returns-in-None-clause-once : goal.returns-in-None-clause-once
returns-in-None-clause-once g c once =
    one_output (g.F.Folders.allowed c.args.folders.now) (map (λ w. w.now) c.args.words.now) (g.R.Read.remaining c.args.input.now) once

pub returns-in-None-clause-unread : goal.returns-in-None-clause-unread
returns-in-None-clause-unread g c unread = c.run_over.ensures.unread (others-unread (map (λ w. w.now) c.args.words.now) (sym c.in-None.ensures) unread)

pub returns-in-None-clause-kept : goal.returns-in-None-clause-kept
returns-in-None-clause-kept g c =
    IfErr-weaker c.run_over.result _ _ (λ e h other. nothing-written-before _ (map (λ w. w.now) c.args.words.now) (g.R.Read.remaining c.args.input.now) _ _ (sym c.in-None.ensures) (h other)) c.run_over.ensures.kept

pub returns-in-None-clause-unread_kept : goal.returns-in-None-clause-unread_kept
returns-in-None-clause-unread_kept g c =
    IfErr-weaker c.run_over.result _ _ (λ e h is. h (λ w. let both = sym is ∙ w in cc)) c.run_over.ensures.kept

pub returns-in-None-clause-same : goal.returns-in-None-clause-same
returns-in-None-clause-same g c = c.run_over.ensures.same

-- ---- a command that does not read the input

pub returns-in-None-list-clause-carries : goal.returns-in-None-list-clause-carries
returns-in-None-list-clause-carries g c =
    IfOk-weaker c.finish.result _ _
    (λ s h. finished-carried _ (map (λ w. w.now) c.args.words.now) _ (g.R.Read.remaining c.args.input.now) c.command_output.result s _ _ (sym c.in-Some.ensures) c.in-None-list.ensures.none c.command_output.ensures.ok h)
    c.finish.ensures.ok

pub returns-in-None-list-clause-once : goal.returns-in-None-list-clause-once
returns-in-None-list-clause-once g c once =
    one_output (g.F.Folders.allowed c.args.folders.now) (map (λ w. w.now) c.args.words.now) (g.R.Read.remaining c.args.input.now) once

pub returns-in-None-list-clause-kept : goal.returns-in-None-list-clause-kept
returns-in-None-list-clause-kept g c =
    IfErr-weaker c.finish.result _ _
    (λ e h other. nothing-written-for _ (map (λ w. w.now) c.args.words.now) _ (g.R.Read.remaining c.args.input.now) _ _ (sym c.in-Some.ensures) c.in-None-list.ensures.none (h other)) c.finish.ensures.err

pub returns-in-None-list-clause-unread_kept : goal.returns-in-None-list-clause-unread_kept
returns-in-None-list-clause-unread_kept g c =
    IfErr-weaker c.finish.result _ _ (λ e h is. h (λ w. let both = sym is ∙ w in cc)) c.finish.ensures.err

pub returns-in-None-list-clause-same : goal.returns-in-None-list-clause-same
returns-in-None-list-clause-same g c = c.command_output.ensures.same

-- ---- check-many

pub returns-in-Ok-clause-carries : goal.returns-in-Ok-clause-carries
returns-in-Ok-clause-carries g c =
    let named = sym c.in-Some.ensures ∙ ap Some c.in-Some-list.ensures.some in
    let read : IfSome (g.R.Read.remaining c.args.input.now) (λ xs. c.as_slice.result.now ≡ xs) = rw c.as_slice.ensures.value c.in-Ok.ensures.all in
    rw c.noted.ensures
    (IfOk-weaker c.check_many.result _ _ (λ s w. many-carried _ (map (λ w. w.now) c.args.words.now) _ _ (g.R.Read.remaining c.args.input.now) c.as_slice.result.now s _ _ named read w) c.check_many.ensures.ok)

pub returns-in-Ok-clause-once : goal.returns-in-Ok-clause-once
returns-in-Ok-clause-once g c once =
    one_output (g.F.Folders.allowed c.args.folders.now) (map (λ w. w.now) c.args.words.now) (g.R.Read.remaining c.args.input.now) once

pub returns-in-Ok-clause-unread : goal.returns-in-Ok-clause-unread
returns-in-Ok-clause-unread g c unread = many-reads (map (λ w. w.now) c.args.words.now) _ _ (sym c.in-Some.ensures ∙ ap Some c.in-Some-list.ensures.some) unread

pub returns-in-Ok-clause-kept : goal.returns-in-Ok-clause-kept
returns-in-Ok-clause-kept g c =
    let named = sym c.in-Some.ensures ∙ ap Some c.in-Some-list.ensures.some in
    let read : IfSome (g.R.Read.remaining c.args.input.now) (λ xs. c.as_slice.result.now ≡ xs) = rw c.as_slice.ensures.value c.in-Ok.ensures.all in
    rw c.noted.ensures
    (IfErr-weaker c.check_many.result _ _ (λ e h other. many-broken-off _ (map (λ w. w.now) c.args.words.now) _ _ (g.R.Read.remaining c.args.input.now) c.as_slice.result.now _ _ named read (h other)) c.check_many.ensures.err)

pub returns-in-Ok-clause-unread_kept : goal.returns-in-Ok-clause-unread_kept
returns-in-Ok-clause-unread_kept g c =
    rw c.noted.ensures (IfErr-weaker c.check_many.result _ _ (λ e h is. absurd (h is)) c.check_many.ensures.read)

pub returns-in-Ok-clause-same : goal.returns-in-Ok-clause-same
returns-in-Ok-clause-same g c = c.check_many.ensures.same

-- ---- an input that cannot be read

pub returns-in-Err-clause-carries : goal.returns-in-Err-clause-carries
returns-in-Err-clause-carries g c = rw c.noted-in-Err.ensures tt

pub returns-in-Err-clause-once : goal.returns-in-Err-clause-once
returns-in-Err-clause-once g c once =
    one_output (g.F.Folders.allowed c.args.folders.now) (map (λ w. w.now) c.args.words.now) (g.R.Read.remaining c.args.input.now) once

pub returns-in-Err-clause-unread : goal.returns-in-Err-clause-unread
returns-in-Err-clause-unread g c unread = many-reads (map (λ w. w.now) c.args.words.now) _ _ (sym c.in-Some.ensures ∙ ap Some c.in-Some-list.ensures.some) unread

pub returns-in-Err-clause-kept : goal.returns-in-Err-clause-kept
returns-in-Err-clause-kept g c =
    rw c.noted-in-Err.ensures (λ other. some-written-for _ (map (λ w. w.now) c.args.words.now) _ _ (g.R.Read.remaining c.args.input.now) _ _ (sym c.in-Some.ensures ∙ ap Some c.in-Some-list.ensures.some)
    (unread-input _ _ _ _ _ _ (Keeps-refl _)))

pub returns-in-Err-clause-unread_kept : goal.returns-in-Err-clause-unread_kept
returns-in-Err-clause-unread_kept g c = rw c.noted-in-Err.ensures (λ is. Keeps-refl _)

pub returns-in-Err-clause-same : goal.returns-in-Err-clause-same
returns-in-Err-clause-same g c = same-refl _
