use Rattle.std.proofs.Common.{◌≡◌, ◌+◌, ◌≤◌, ◌++◌, drop, length, string_bytes}
use Rattle.std.specs.List.{concat}
use Rattle.rustsec_markdown.specs.MarkdownText.{fitting}
use Rattle.rustsec_markdown.proofs.fitting.push_fitting.Given as goal

-- the text so far and those of the other lines that fit into the rest of the bytes give the whole
abbrev pub invariant-loop-line : goal.invariant-loop-line
invariant-loop-line l = record {
  written : string_bytes l.text ++ concat (fitting l.room (drop l.line-index l.lines)) ≡ string_bytes l.fn.text ++ concat (fitting l.fn.budget l.lines);
  counted : l.kept + length (fitting l.room (drop l.line-index l.lines)) ≡ length (fitting l.fn.budget l.lines);
  few : l.kept ≤ l.line-index;
  short : length (string_bytes l.text) + l.room ≡ length (string_bytes l.fn.text) + l.fn.budget;
}
