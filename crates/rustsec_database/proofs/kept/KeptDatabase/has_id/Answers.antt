use Rattle.std.proofs.Common.{◌∙◌, ap}
use Rattle.std.specs.List.{list_any}
use Rattle.rustsec_texts.specs.IdOrder.{id_eq}
use Rattle.rustsec_database.specs.Kept.{KeptValue}
use Rattle.rustsec_database.proofs.kept.KeptDatabase.has_id.Goals as goal

pub returns : goal.returns
returns c =
    c.contains.ensures ∙ ap (λ (k : KeptValue). list_any (id_eq c.args.id.now) k.ids) c.self.view_is
