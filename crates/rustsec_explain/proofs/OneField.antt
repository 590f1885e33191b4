-- A query with one field set selects by the test of that field alone.
use Rattle.std.proofs.Common.{◌≡◌, ◌∙◌, ◌&&◌, Bool, true, false, List, Option, Some, None, refl, ap}
use Rattle.rustsec_lock.specs.Source.{Source}
use Rattle.rustsec_lock.specs.declared.platforms.Arch.{Arch}
use Rattle.rustsec_lock.specs.declared.platforms.OS.{OS}
use Rattle.rustsec_lock.specs.declared.severity.Severity.{Severity}
use Rattle.rustsec_advisory.specs.declared.advisory.Advisory.{Advisory}
use Rattle.rustsec_advisory.specs.declared.affected.Affected.{Affected}
use Rattle.rustsec_database.specs.Query.{unset}
use Rattle.rustsec_database.specs.Selects.{has_source, if_there, is_severe, on_arch, on_os, selects}

-- a test that every value passes
all-pass : {A : Type 0} (o : Option A) → if_there (λ x. true) o ≡ true
all-pass None = refl
all-pass (Some x) = refl

-- a test before tests that pass
ends : (b : Bool) → (b && true && true && true && true) ≡ b
ends true = refl
ends false = refl

and-true : (b : Bool) → (b && true) ≡ b
and-true true = refl
and-true false = refl

-- a test before those of the platforms
before-platforms : (b : Bool) (o : Option Affected) → (b && if_there (λ f. true) o && if_there (λ f. true) o && true && true && true) ≡ b
before-platforms b o = (λ i. b && all-pass o i && all-pass o i && true && true && true) ∙ (ap (λ c. c && true) (ends b) ∙ and-true b)

pub source_alone : (s : Source) (a : Advisory) → selects (record unset { package_source = Some s }) a ≡ has_source (record unset { package_source = Some s }) a
unfolding selects
source_alone s a =
    let b = has_source (record unset { package_source = Some s }) a in
    before-platforms (b && true) a.affected ∙ and-true b

pub severity_alone : (least : Severity) (a : Advisory) → selects (record unset { severity = Some least }) a ≡ is_severe (record unset { severity = Some least }) a
unfolding selects
severity_alone least a = before-platforms (is_severe (record unset { severity = Some least }) a) a.affected

pub arch_alone : (asked : List Arch) (a : Advisory) → selects (record unset { target_arch = asked }) a ≡ on_arch (record unset { target_arch = asked }) a
unfolding selects
arch_alone asked a =
    let b = on_arch (record unset { target_arch = asked }) a in
    (λ i. b && all-pass a.affected i && true && true && true) ∙ ends b

pub os_alone : (asked : List OS) (a : Advisory) → selects (record unset { target_os = asked }) a ≡ on_os (record unset { target_os = asked }) a
unfolding selects
os_alone asked a =
    let b = on_os (record unset { target_os = asked }) a in
    (λ i. all-pass a.affected i && b && true && true && true) ∙ (ap (λ c. c && true && true) (and-true b) ∙ (ap (λ c. c && true) (and-true b) ∙ and-true b))
