use Rattle.std.proofs.Common.{◌∙◌, sym}
use Rattle.rustsec_registry.proofs.Entries.{at_insert}
use Rattle.rustsec_registry.proofs.Listing.{listed-push}
use Rattle.rustsec_registry.proofs.cache_entry.by_text.Goals as goal

pub loop-entry-preserved : goal.loop-entry-preserved
loop-entry-preserved c =
    λ text. rw c.in_ok-insert.ensures.ok
    (at_insert c.loop-entry.entries text c.in-Some.entry.version c.in-Some.entry.yanked
    ∙ rw (c.loop-entry.invariant text) (sym (listed-push c.loop-entry.yielded c.in-Some.entry text)))
