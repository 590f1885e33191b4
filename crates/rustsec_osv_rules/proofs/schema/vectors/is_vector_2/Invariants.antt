use Rattle.std.proofs.Common.{◌≡◌, map}
use Rattle.std.specs.List.{list_all}
use Rattle.rustsec_osv_rules.specs.schema.VectorScan.{is_metric_2}
use Rattle.rustsec_osv_rules.proofs.schema.vectors.is_vector_2.Given as goal

-- whether each part so far is a metric
abbrev pub invariant-loop-part : goal.invariant-loop-part
invariant-loop-part l = l.all ≡ list_all is_metric_2 (map (λ p. p.now) l.yielded)
