use Rattle.std.proofs.Common.{◌≡◌, ◌⊎◌, refl, sym, inl, inr}
use Rattle.semver.specs.Identifiers.{comparator_view}
use Rattle.semver.specs.Parse.{Held}
use Rattle.semver.specs.declared.Op.{Op}
use Rattle.semver.specs.declared.Op.TheVariants.{Exact, Caret, Tilde, Wildcard}
use Rattle.rustsec_versions.specs.requirement.Requirement.{neither, side_of}
use Rattle.rustsec_versions.proofs.requirement.comparator.side_by_op.Goals as goal

-- an operator that gives neither end
side_of-neither : (o : Op) (c : Held) → (o ≡ Exact) ⊎ ((o ≡ Caret) ⊎ ((o ≡ Tilde) ⊎ (o ≡ Wildcard))) → side_of o c ≡ neither
side_of-neither o c (inl h) = rw h refl
side_of-neither o c (inr (inl h)) = rw h refl
side_of-neither o c (inr (inr (inl h))) = rw h refl
side_of-neither o c (inr (inr (inr h))) = rw h refl

pub returns-in-Exact : goal.returns-in-Exact
returns-in-Exact c = sym (side_of-neither c.args.c.now.op (comparator_view c.args.c.now) c.in-Exact.is)
