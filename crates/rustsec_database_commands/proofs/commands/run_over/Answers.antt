use Rattle.std.proofs.Common.{◌∙◌, map, sym}
use Rattle.std.proofs.lemmas.Result.{IfErr-weaker, IfOk-weaker}
use Rattle.rustsec_database_commands.proofs.Once.{one_output}
use Rattle.rustsec_database_commands.proofs.Written.{broken-off-before, carried-before, finished-carried, nothing-written, others-unread}
use Rattle.rustsec_database_commands.proofs.commands.run_over.Goals as goal

-- ---- other words

pub returns-in-None-clause-carries : goal.returns-in-None-clause-carries
returns-in-None-clause-carries g c =
    IfOk-weaker c.run_over.result _ _ (λ s h. carried-before _ (map (λ w. w.now) c.args.words.now) (g.R.Read.remaining c.args.input.now) s _ _ (sym c.in-None.ensures) h) c.run_over.ensures.carries

pub returns-in-None-clause-once : goal.returns-in-None-clause-once
returns-in-None-clause-once g c once =
    one_output (g.F.Folders.allowed c.args.folders.now) (map (λ w. w.now) c.args.words.now) (g.R.Read.remaining c.args.input.now) once

pub returns-in-None-clause-unread : goal.returns-in-None-clause-unread
returns-in-None-clause-unread g c unread = c.run_over.ensures.unread (others-unread (map (λ w. w.now) c.args.words.now) (sym c.in-None.ensures) unread)

pub returns-in-None-clause-kept : goal.returns-in-None-clause-kept
returns-in-None-clause-kept g c =
    IfErr-weaker c.run_over.result _ _ (λ e h other. broken-off-before _ (map (λ w. w.now) c.args.words.now) (g.R.Read.remaining c.args.input.now) _ _ (sym c.in-None.ensures) (h other)) c.run_over.ensures.kept

pub returns-in-None-clause-unread_kept : goal.returns-in-None-clause-unread_kept
returns-in-None-clause-unread_kept g c = c.run_over.ensures.unread_kept

pub returns-in-None-clause-same : goal.returns-in-None-clause-same
returns-in-None-clause-same g c = c.run_over.ensures.same

-- ---- a command of this crate

pub returns-clause-carries : goal.returns-clause-carries
returns-clause-carries g c =
    IfOk-weaker c.finish.result _ _
    (λ s h. finished-carried _ (map (λ w. w.now) c.args.words.now) _ (g.R.Read.remaining c.args.input.now) c.noted_output-made.result s _ _ (sym c.in-Some.ensures) c.noted_output-made.ensures.ok h) c.finish.ensures.ok

pub returns-clause-once : goal.returns-clause-once
returns-clause-once g c once =
    one_output (g.F.Folders.allowed c.args.folders.now) (map (λ w. w.now) c.args.words.now) (g.R.Read.remaining c.args.input.now) once

pub returns-clause-kept : goal.returns-clause-kept
returns-clause-kept g c =
    IfErr-weaker c.finish.result _ _ (λ e h other. nothing-written _ (map (λ w. w.now) c.args.words.now) _ (g.R.Read.remaining c.args.input.now) _ _ (sym c.in-Some.ensures) (h other)) c.finish.ensures.err

pub returns-clause-unread_kept : goal.returns-clause-unread_kept
returns-clause-unread_kept g c =
    IfErr-weaker c.finish.result _ _ (λ e h is. h (λ w. let both = sym is ∙ w in cc)) c.finish.ensures.err

pub returns-clause-same : goal.returns-clause-same
returns-clause-same g c = c.noted_output-made.ensures.same
