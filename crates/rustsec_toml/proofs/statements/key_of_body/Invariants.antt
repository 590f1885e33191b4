use denote.Shadow.{shadow}
use denote.Text.{Utf8}
use Rattle.rustsec_toml.proofs.statements.key_of_body.Given as goal

-- what is left is text
abbrev pub invariant-loop : goal.invariant-loop
invariant-loop l =
    (goal.iterator-loop).can_next l.iterator' ×
    (goal.iterator-loop).is_finite l.iterator' ×
    shadow (Utf8 l.rest)
