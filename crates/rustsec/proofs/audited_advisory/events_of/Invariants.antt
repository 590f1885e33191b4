use Rattle.std.proofs.Common.{◌≡◌, flat_map, map, take}
use Rattle.rustsec_osv.specs.DocumentEvents.{event_of}
use Rattle.rustsec_osv.specs.Export.{events_of_member}
use Rattle.rustsec.proofs.audited_advisory.events_of.Given as goal

-- the events of the members so far
abbrev pub invariant-loop-member : goal.invariant-loop-member
invariant-loop-member l = map event_of l.events.items ≡ flat_map events_of_member (take l.member-index l.member-items)
