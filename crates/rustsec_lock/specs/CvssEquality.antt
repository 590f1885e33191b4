-- `==` of base metrics and of vectors holds exactly between the same values.
use Rattle.std.specs.Prelude.{◌≡◌, ◌&&◌, Bool, true, nat_eq}
use Rattle.std.specs.Bool.{Decides}
use Rattle.std.specs.Cmp.{first_so, second_so}
use Rattle.std.specs.Cmp.Lexicographic.{bytes_decides}
use Rattle.std.proofs.Common.{ap, eq-eqb}
use Rattle.std.proofs.lemmas.Bool.{eqb-true}
use denote.Enum.Bare.{sameb, same_true, true_same}
use Rattle.rustsec_values.specs.Equality.{both_true}
use Rattle.rustsec_lock.specs.contracts.cvss.CvssPartialEq.TheImpl.{ghosts as cvss_equality}
use Rattle.rustsec_lock.specs.declared.cvss.Cvss.{Cvss}
use Rattle.rustsec_lock.specs.declared.cvss.Cvss.TheVariants as cvss
use Rattle.rustsec_lock.specs.declared.metrics.Base.{Base}
use Rattle.rustsec_lock.specs.contracts.metrics.AttackVector.{the_type as attack_vector}
use Rattle.rustsec_lock.specs.contracts.metrics.AttackComplexity.{the_type as attack_complexity}
use Rattle.rustsec_lock.specs.contracts.metrics.PrivilegesRequired.{the_type as privileges_required}
use Rattle.rustsec_lock.specs.contracts.metrics.UserInteraction.{the_type as user_interaction}
use Rattle.rustsec_lock.specs.contracts.metrics.Scope.{the_type as scope}
use Rattle.rustsec_lock.specs.contracts.metrics.Confidentiality.{the_type as confidentiality}
use Rattle.rustsec_lock.specs.contracts.metrics.Integrity.{the_type as integrity}
use Rattle.rustsec_lock.specs.contracts.metrics.Availability.{the_type as availability}

-- `==` of base metrics: that of each part
abbrev pub base_eq : Base → Base → Bool
base_eq x y =
    nat_eq x.minor_version y.minor_version && (sameb attack_vector x.av y.av && (sameb attack_complexity x.ac y.ac
    && (sameb privileges_required x.pr y.pr && (sameb user_interaction x.ui y.ui && (sameb scope x.s y.s
    && (sameb confidentiality x.c y.c && (sameb integrity x.i y.i && sameb availability x.a y.a)))))))

base-same : (x y : Base) → base_eq x y ≡ true → x ≡ y
base-same x y h =
    let h1 = second_so (nat_eq x.minor_version y.minor_version) _ h in
    let h2 = second_so (sameb attack_vector x.av y.av) _ h1 in
    let h3 = second_so (sameb attack_complexity x.ac y.ac) _ h2 in
    let h4 = second_so (sameb privileges_required x.pr y.pr) _ h3 in
    let h5 = second_so (sameb user_interaction x.ui y.ui) _ h4 in
    let h6 = second_so (sameb scope x.s y.s) _ h5 in
    let h7 = second_so (sameb confidentiality x.c y.c) _ h6 in
    let e0 = eqb-true x.minor_version y.minor_version (first_so (nat_eq x.minor_version y.minor_version) _ h) in
    let e1 = same_true attack_vector tt x.av y.av (first_so (sameb attack_vector x.av y.av) _ h1) in
    let e2 = same_true attack_complexity tt x.ac y.ac (first_so (sameb attack_complexity x.ac y.ac) _ h2) in
    let e3 = same_true privileges_required tt x.pr y.pr (first_so (sameb privileges_required x.pr y.pr) _ h3) in
    let e4 = same_true user_interaction tt x.ui y.ui (first_so (sameb user_interaction x.ui y.ui) _ h4) in
    let e5 = same_true scope tt x.s y.s (first_so (sameb scope x.s y.s) _ h5) in
    let e6 = same_true confidentiality tt x.c y.c (first_so (sameb confidentiality x.c y.c) _ h6) in
    let e7 = same_true integrity tt x.i y.i (first_so (sameb integrity x.i y.i) _ h7) in
    let e8 = same_true availability tt x.a y.a (second_so (sameb integrity x.i y.i) _ h7) in
    λ k. record { minor_version = e0 k; av = e1 k; ac = e2 k; pr = e3 k; ui = e4 k; s = e5 k; c = e6 k; i = e7 k; a = e8 k }

base-equal : (x y : Base) → x ≡ y → base_eq x y ≡ true
base-equal x y e =
    both_true (nat_eq x.minor_version y.minor_version) _ (eq-eqb x.minor_version y.minor_version (ap (λ (b : Base). b.minor_version) e))
    (both_true (sameb attack_vector x.av y.av) _ (true_same attack_vector x.av y.av (ap (λ (b : Base). b.av) e))
    (both_true (sameb attack_complexity x.ac y.ac) _ (true_same attack_complexity x.ac y.ac (ap (λ (b : Base). b.ac) e))
    (both_true (sameb privileges_required x.pr y.pr) _ (true_same privileges_required x.pr y.pr (ap (λ (b : Base). b.pr) e))
    (both_true (sameb user_interaction x.ui y.ui) _ (true_same user_interaction x.ui y.ui (ap (λ (b : Base). b.ui) e))
    (both_true (sameb scope x.s y.s) _ (true_same scope x.s y.s (ap (λ (b : Base). b.s) e))
    (both_true (sameb confidentiality x.c y.c) _ (true_same confidentiality x.c y.c (ap (λ (b : Base). b.c) e))
    (both_true (sameb integrity x.i y.i) _ (true_same integrity x.i y.i (ap (λ (b : Base). b.i) e))
    (true_same availability x.a y.a (ap (λ (b : Base). b.a) e)))))))))

pub base_decides : (x y : Base) → Decides (base_eq x y) (x ≡ y)
base_decides x y = (base-same x y, base-equal x y)

pub cvss_decides : (x y : Cvss) → Decides (cvss_equality.eq x y) (x ≡ y)
cvss_decides (cvss.CvssV30 a) (cvss.CvssV30 b) = (λ h. ap cvss.CvssV30 (base-same a b h), λ e. base-equal a b (cc e))
cvss_decides (cvss.CvssV30 a) (cvss.CvssV31 b) = (λ h. cc h, λ e. cc e)
cvss_decides (cvss.CvssV30 a) (cvss.CvssV40 t) = (λ h. cc h, λ e. cc e)
cvss_decides (cvss.CvssV31 a) (cvss.CvssV30 b) = (λ h. cc h, λ e. cc e)
cvss_decides (cvss.CvssV31 a) (cvss.CvssV31 b) = (λ h. ap cvss.CvssV31 (base-same a b h), λ e. base-equal a b (cc e))
cvss_decides (cvss.CvssV31 a) (cvss.CvssV40 t) = (λ h. cc h, λ e. cc e)
cvss_decides (cvss.CvssV40 s) (cvss.CvssV30 b) = (λ h. cc h, λ e. cc e)
cvss_decides (cvss.CvssV40 s) (cvss.CvssV31 b) = (λ h. cc h, λ e. cc e)
cvss_decides (cvss.CvssV40 s) (cvss.CvssV40 t) = (λ h. ap cvss.CvssV40 ((bytes_decides s t).0 h), λ e. (bytes_decides s t).1 (cc e))
