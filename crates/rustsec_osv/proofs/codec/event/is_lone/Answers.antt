use Rattle.std.proofs.Common.{refl}
use Rattle.serde_json.proofs.Views.{members_len-members_view}
use Rattle.rustsec_osv.proofs.codec.event.is_lone.Goals as goal

pub returns : goal.returns
returns c = rw (members_len-members_view c.args.fields.now.entries, c.len.ensures.len) refl
