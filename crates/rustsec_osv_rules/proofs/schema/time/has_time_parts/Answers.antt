use Rattle.std.proofs.Common.{◌≡◌, ◌∙◌, ◌-◌, arith, drop, length, length-drop, subst, sym}
use Rattle.std.proofs.lemmas.List.{take_all}
use Rattle.rustsec_osv_rules.specs.schema.TimeScan.{has_moment, is_zone}
use Rattle.rustsec_osv_rules.proofs.schema.Times.{and_second}
use Rattle.rustsec_osv_rules.proofs.schema.time.has_time_parts.Goals as goal

pub returns-then-has_moment : goal.returns-then-has_moment
returns-then-has_moment c =
    let t = c.args.text.now in
    and_second (has_moment t) (is_zone (drop 19 t)) c.is_zone.result (sym c.has_moment.ensures ∙ c.if-has_moment.true)
    (subst (λ z. c.is_zone.result ≡ is_zone z) (take_all (length t - 19) (drop 19 t) (omega (arith, length-drop 19 t))) c.is_zone.ensures)
