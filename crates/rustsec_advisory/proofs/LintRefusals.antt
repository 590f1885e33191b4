-- How the linter refuses a file, from how it refuses to read it, and from how it refuses its text.
use Rattle.std.proofs.Common.{◌≡◌, ℕ, List, Some, inl, inr, true}
use Rattle.rustsec_advisory.specs.FileRefusals.{IsLintRefusal, IsNoText, IsTextRefusal}
use Rattle.rustsec_files.specs.Paths.{is_markdown}
use Rattle.rustsec_files.specs.Allowed.{Allowed}
use Rattle.rustsec_values.specs.Failure.{Failure}

pub no_text : (allowed : Allowed) (path : List ℕ) (e : Failure) → IsNoText allowed path e → IsLintRefusal allowed path e
no_text allowed path e (inl other) = inl other
no_text allowed path e (inr unread) = inr (unread.0, inl unread.1)

pub no_advisory : (allowed : Allowed) (path text : List ℕ) (e : Failure) → is_markdown path ≡ true → allowed.reads path (Some text)
    → IsTextRefusal text e → IsLintRefusal allowed path e
no_advisory allowed path text e markdown reads bad = inr (markdown, inr (text, (reads, bad)))
