-- Which answers some folders allow.
use Rattle.std.specs.Prelude.{◌≡◌, ◌↔◌, ℕ, IfSome, List, Option, ⊤}
use Rattle.rustsec_files.specs.declared.entry.FolderEntry.{FolderEntry}

-- of each path, the answers that are allowed: a folder's entries and a file's text, where None is an I/O error
pub record Allowed : Type 1 where
  pub lists : List ℕ → Option (List FolderEntry) → Type 0
  pub reads : List ℕ → Option (List ℕ) → Type 0

-- every answer
abbrev pub every_answer : Allowed
every_answer = record { lists = λ path answer. ⊤; reads = λ path answer. ⊤ }

-- what the folders of a disk allow: every answer, since no contract knows what a disk holds
abbrev pub real_folders : Allowed
real_folders = every_answer

-- these answers, where each text is one that an opened file had
abbrev pub read_from : (List ℕ → Type 0) → Allowed → Allowed
read_from opened allowed = record { lists = allowed.lists; reads = λ path answer. allowed.reads path answer × IfSome answer opened }

-- the text of some file: its bytes, if those that it has left are known
abbrev pub IsTextOfFile : {F : Type 0} → (F → Option (List ℕ)) → List ℕ → Type 0
IsTextOfFile {F} remaining text = (file : F) × IfSome (remaining file) (λ bytes. text ≡ bytes)

-- what the folders of a disk allow, where each text is that of some file
abbrev pub real_files : {F : Type 0} → (F → Option (List ℕ)) → Allowed
real_files remaining = read_from (IsTextOfFile remaining) real_folders

-- two that allow the same
pub record AllowSame (a b : Allowed) : Type 0 where
  pub lists : (path : List ℕ) (answer : Option (List FolderEntry)) → a.lists path answer ↔ b.lists path answer
  pub reads : (path : List ℕ) (answer : Option (List ℕ)) → a.reads path answer ↔ b.reads path answer

-- each path has one answer at most, however often it is asked for
pub record AnswersOnce (allowed : Allowed) : Type 0 where
  pub lists : (path : List ℕ) (one other : Option (List FolderEntry)) → allowed.lists path one → allowed.lists path other → one ≡ other
  pub reads : (path : List ℕ) (one other : Option (List ℕ)) → allowed.reads path one → allowed.reads path other → one ≡ other
