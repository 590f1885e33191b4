-- Answers of folders in memory.
use Rattle.std.proofs.Common.{◌≡◌, ◌≢◌, ◌∙◌, ℕ, List, Option, None, Some, ap, inl, inr, refl, sym}
use Rattle.std.specs.Prelude.{IfErr, IfOk, Result}
use Rattle.std.proofs.lemmas.Result.{IfErr-weaker, IfOk-weaker}
use Rattle.rustsec_values.specs.Failure.{Failure, IsOfKind, IsRefusal}
use Rattle.rustsec_values.specs.declared.error.ErrorKind.TheVariants as kind
use Rattle.rustsec_values.proofs.Refusals.{refusal, refused_by}
use Rattle.rustsec_files.specs.Allowed.{AllowSame, AnswersOnce}
use Rattle.rustsec_files.specs.declared.entry.FolderEntry.{FolderEntry}
use Rattle.rustsec_fixtures.specs.FoldersInMemory.{IsAnswer, IsHeld, answers_of, held_at, listed, read}
use Rattle.rustsec_fixtures.specs.declared.folders_in_memory.Holds.{Holds}
use Rattle.rustsec_fixtures.specs.declared.folders_in_memory.MemoryFolders.{MemoryFolders}

-- where folders do not turn, a path has one content
held-once : (f : MemoryFolders) (path : List ℕ) (one other : Option Holds) → f.turns_at ≡ 0 → IsHeld f path one → IsHeld f path other → one ≡ other
held-once f path one other stays (inl h) (inl k) = h ∙ sym k
held-once f path one other stays (inl h) (inr k) = absurd (k.0 stays)
held-once f path one other stays (inr h) k = absurd (h.0 stays)

answer-once : {A : Type 0} (f : MemoryFolders) (by : Option Holds → Option A) (path : List ℕ) (one other : Option A) → f.turns_at ≡ 0
    → f.failing.at ≡ 0 → IsAnswer f by path one → IsAnswer f by path other → one ≡ other
answer-once f by path one other stays well (inl h) (inl k) =
    sym h.1.1 ∙ (ap by (held-once f path h.0 k.0 stays h.1.0 k.1.0) ∙ k.1.1)
answer-once f by path one other stays well (inl h) (inr k) = absurd (k.0 well)
answer-once f by path one other stays well (inr h) k = absurd (h.0 well)

pub answers_once : (f : MemoryFolders) → f.turns_at ≡ 0 → f.failing.at ≡ 0 → AnswersOnce (answers_of f)
answers_once f stays well = record {
  lists = λ path one other. answer-once f listed path one other stays well;
  reads = λ path one other. answer-once f read path one other stays well;
}

-- ---- what is answered after a call was counted

answered : {A : Type 0} (f : MemoryFolders) (by : Option Holds → Option A) (path : List ℕ) (held : Option Holds) (answer : Option A)
    → IsHeld f path held → by held ≡ answer → IsAnswer f by path answer
answered f by path held answer is h = inl (held, (is, h))

pub lists : (f g : MemoryFolders) (path : List ℕ) (held : Option Holds) (r : Result (List FolderEntry) Failure) → AllowSame (answers_of f) (answers_of g)
    → IsHeld g path held → IfOk r (λ entries. listed held ≡ Some entries) → IfOk r (λ entries. IsAnswer f listed path (Some entries))
lists f g path held r same is h = IfOk-weaker r _ _ (λ entries k. (same.lists path (Some entries)).1 (answered g listed path held (Some entries) is k)) h

pub reads : (f g : MemoryFolders) (path : List ℕ) (held : Option Holds) (r : Result (List ℕ) Failure) → AllowSame (answers_of f) (answers_of g)
    → IsHeld g path held → IfOk r (λ text. read held ≡ Some text) → IfOk r (λ text. IsAnswer f read path (Some text))
reads f g path held r same is h = IfOk-weaker r _ _ (λ text k. (same.reads path (Some text)).1 (answered g read path held (Some text) is k)) h

pub lists-none : {T : Type 0} (f g : MemoryFolders) (path : List ℕ) (held : Option Holds) (r : Result T Failure) → AllowSame (answers_of f) (answers_of g)
    → IsHeld g path held → IfErr r (IsRefusal kind.Io (listed held ≡ None)) → IfErr r (IsRefusal kind.Io (IsAnswer f listed path None))
lists-none f g path held r same is h =
    IfErr-weaker r _ _ (λ e. refused_by kind.Io e (λ k. (same.lists path None).1 (answered g listed path held None is k))) h

pub reads-none : {T : Type 0} (f g : MemoryFolders) (path : List ℕ) (held : Option Holds) (r : Result T Failure) → AllowSame (answers_of f) (answers_of g)
    → IsHeld g path held → IfErr r (IsRefusal kind.Io (read held ≡ None)) → IfErr r (IsRefusal kind.Io (IsAnswer f read path None))
reads-none f g path held r same is h =
    IfErr-weaker r _ _ (λ e. refused_by kind.Io e (λ k. (same.reads path None).1 (answered g read path held None is k))) h

pub list-fails : (f g : MemoryFolders) (path : List ℕ) (e : Failure) → AllowSame (answers_of f) (answers_of g) → g.failing.at ≢ 0 → IsOfKind kind.Io e
    → IsRefusal kind.Io (IsAnswer f listed path None) e
list-fails f g path e same fails h = refusal kind.Io e ((same.lists path None).1 (inr (fails, refl))) h

pub read-fails : (f g : MemoryFolders) (path : List ℕ) (e : Failure) → AllowSame (answers_of f) (answers_of g) → g.failing.at ≢ 0 → IsOfKind kind.Io e
    → IsRefusal kind.Io (IsAnswer f read path None) e
read-fails f g path e same fails h = refusal kind.Io e ((same.reads path None).1 (inr (fails, refl))) h
