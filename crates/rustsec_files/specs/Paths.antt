-- Paths of files: segments between slashes. The last segment names the file.
use Rattle.std.specs.Prelude.{ℕ, ◌==◌, Bool, false, not, ◌&&◌, ◌||◌, ◌++◌, List, [], ◌∷◌, Option, Some, None, codes, filter, length, nat_eq, nat_lt}
use Rattle.std.specs.List.{ends_with, slice_split, starts_with}
use Rattle.std.specs.Str.{bytes_eq}

-- whether a text between two slashes is a segment: an empty text and `.` are not segments
abbrev pub is_segment : List ℕ → Bool
is_segment text = not (length text == 0 || bytes_eq text (codes "."))

-- the segments of a path
abbrev pub segments : List ℕ → List (List ℕ)
segments path = filter is_segment (slice_split (λ b. b == 47) path)

-- the last of some values
abbrev pub last : {A : Type 0} → List A → Option A
last [] = None
last (x ∷ []) = Some x
last (x ∷ y ∷ more) = last (y ∷ more)

-- some values without the last one
abbrev pub without_last : {A : Type 0} → List A → List A
without_last [] = []
without_last (x ∷ []) = []
without_last (x ∷ y ∷ more) = x ∷ without_last (y ∷ more)

-- the name of a file: the last segment of its path
abbrev pub file_name : List ℕ → Option (List ℕ)
file_name path = last (segments path)

-- the name of the folder that holds it: the segment before it
abbrev pub folder : List ℕ → Option (List ℕ)
folder path = last (without_last (segments path))

-- the name of that folder's parent: the segment before that one
abbrev pub folder_parent : List ℕ → Option (List ℕ)
folder_parent path = last (without_last (without_last (segments path)))

-- whether a file's name has the extension `md`: it ends with `.md`, and there is a byte before the full stop
abbrev pub has_markdown_extension : List ℕ → Bool
has_markdown_extension name = nat_lt 3 (length name) && ends_with nat_eq name (codes ".md")

-- whether a file's name is this one with `.md` after it
abbrev pub is_markdown_name : List ℕ → List ℕ → Bool
is_markdown_name stem name = bytes_eq name (stem ++ codes ".md")

-- whether a file's name is a draft's
abbrev pub is_draft_name : List ℕ → Bool
is_draft_name name = starts_with nat_eq name (codes "RUSTSEC-0000-0000.")

-- whether there is a text, and it passes a test
abbrev pub passes : (List ℕ → Bool) → Option (List ℕ) → Bool
passes test None = false
passes test (Some text) = test text

-- whether a path is a Markdown file's
abbrev pub is_markdown : List ℕ → Bool
is_markdown path = passes has_markdown_extension (file_name path)

-- whether a path is that of the Markdown file of this name: of `STEM.md`
abbrev pub is_markdown_file_of : List ℕ → List ℕ → Bool
is_markdown_file_of stem path = passes (is_markdown_name stem) (file_name path)

-- whether a path is a draft's
abbrev pub is_draft : List ℕ → Bool
is_draft path = passes is_draft_name (file_name path)
