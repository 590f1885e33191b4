use Rattle.std.proofs.Common.{◌≡◌, ◌∙◌, [], None, ap, sym}
use Rattle.std.proofs.lemmas.Str.{IsUtf8-nil, utf8_lossy-IsUtf8}
use Rattle.std.specs.Str.Lossy.{utf8_lossy}
use Rattle.rustsec_values.specs.Failure.{or_empty}
use Rattle.rustsec_files.proofs.split.name_not_utf8.Goals as goal

pub returns-in-None : goal.returns-in-None
returns-in-None c =
    let none = rw c.in-None.is at c.first_not_utf8.ensures in
    c.new.ensures.bytes ∙ sym (utf8_lossy-IsUtf8 [] IsUtf8-nil) ∙ ap (λ n. utf8_lossy (or_empty n)) none
