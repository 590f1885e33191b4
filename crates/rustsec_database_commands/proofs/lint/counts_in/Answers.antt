use Rattle.rustsec_database_commands.proofs.lint.counts_in.Goals as goal

pub returns : goal.returns
returns c =
    λ i. record { files = c.in_ok-counts.ensures.files i; faults = c.in_ok-counts.ensures.faults i; notes = c.in_ok-counts.ensures.notes i }
