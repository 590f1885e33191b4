use Rattle.std.proofs.Common.{◌∷◌, [], get_or, take}
use Rattle.std.specs.Fmt.{HasWritten, IsPlainFormatter}
use Rattle.rustsec_texts.specs.Paths.{path_text}
use Rattle.rustsec_texts.proofs.function_path.FunctionPathDisplay.fmt.Given as goal

abbrev pub invariant-loop-segment : goal.invariant-loop-segment
invariant-loop-segment g l =
    IsPlainFormatter l.fn.f → HasWritten g.W.Write.write_str_gives l.fn.f (path_text (get_or l.fn.self 0 [] ∷ take l.segment-index l.rest)) l.f
