-- The lines for many lockfiles, one after another.
use Rattle.std.proofs.Common.{◌≡◌, ◌∙◌, ◌++◌, ◌+◌, ◌<◌, ◌≤◌, ℕ, List, [], ◌∷◌, Bor, Option, ap, append-nil, get_or, length, map, refl, subst, sym, take}
use Rattle.std.proofs.KnownBytes.{Appends-nil, Appends-trans}
use Rattle.std.specs.Io.KnownBytes.{Appends}
use Rattle.std.specs.Prelude.{flat_map, max}
use Rattle.std.specs.List.{fold}
use Rattle.std.proofs.lemmas.Grind.{flat_map-append}
use Rattle.std.proofs.lemmas.List.{map_more, take-map, take_all}
use Rattle.rustsec_files.specs.Allowed.{Allowed, AllowSame}
use Rattle.rustsec_files.specs.Listed.{Pairwise}
use Rattle.rustsec_files.proofs.Lists.{pairwise-push}
use Rattle.rustsec_commands.specs.Output.{Output}
use Rattle.rustsec_program.specs.Check.{AreAnswers, worst}
use Rattle.rustsec_program.specs.Checked.{Ground, IsAnswer, line}
use Rattle.rustsec_program.specs.Writing.{Writes, WritesFirst}
use Rattle.rustsec_program.proofs.Before.{answer-before}

-- an answer for a path
abbrev pub Answers : Allowed → Ground → List ℕ → Output → Type 0
Answers allowed g path o = IsAnswer allowed (line path) g path o

-- the text and the status of the answers for some paths
abbrev pub AreSoFar : Allowed → Ground → List (List ℕ) → List ℕ → ℕ → Type 0
AreSoFar allowed g paths text status =
    (outputs : List Output) × (Pairwise (Answers allowed g) paths outputs × ((text ≡ flat_map (λ (o : Output). o.text) outputs) × (status ≡ worst outputs)))

none-so-far : (allowed : Allowed) (g : Ground) → AreSoFar allowed g [] [] 0
none-so-far allowed g = ([], (tt, (refl, refl)))

fold-push : {A B : Type 0} (f : B → A → B) (b : B) (xs : List A) (x : A) → fold f b (xs ++ x ∷ []) ≡ f (fold f b xs) x
fold-push f b [] x = refl
fold-push f b (y ∷ xs) x = fold-push f (f b y) xs x

one-more : (allowed : Allowed) (g : Ground) (paths : List (List ℕ)) (path text more : List ℕ) (status next : ℕ) (one : Output)
    → AreSoFar allowed g paths text status → Answers allowed g path one → more ≡ text ++ one.text → next ≡ max status one.status
    → AreSoFar allowed g (paths ++ path ∷ []) more next
one-more allowed g paths path text more status next one (outputs, (each, (is, worst_is))) answer more_is next_is = (
  outputs ++ one ∷ [],
  (
    pairwise-push (Answers allowed g) paths outputs path one each answer,
    (
      more_is ∙ (ap (λ t. t ++ one.text) is ∙ (ap (λ t. flat_map (λ (o : Output). o.text) outputs ++ t) (sym (append-nil one.text))
          ∙ sym (flat_map-append (λ (o : Output). o.text) outputs (one ∷ [])))),
      next_is ∙ (ap (λ s. max s one.status) worst_is ∙ sym (fold-push (λ status (o : Output). max status o.status) 0 outputs one)),
    ),
  ),
)

-- the line for one more path, after folders were asked that allow the same
answered-more : (a b : Allowed) (g : Ground) (paths : List (Bor (List ℕ))) (i : ℕ) (d : Bor (List ℕ)) (text more : List ℕ) (status next : ℕ)
    → AllowSame a b → i < length paths → AreSoFar a g (map (λ p. p.now) (take i paths)) text status
    → (one : Output) × (IsAnswer b (line (get_or paths i d).now) g (get_or paths i d).now one × ((more ≡ text ++ one.text) × (next ≡ max status one.status)))
    → AreSoFar a g (map (λ p. p.now) (take (i + 1) paths)) more next
answered-more a b g paths i d text more status next same low so_far (one, (answer, (text_is, status_is))) =
    rw (map_more (λ (p : Bor (List ℕ)). p.now) paths i d low)
    (one-more a g (map (λ p. p.now) (take i paths)) (get_or paths i d).now text more status next one so_far
    (answer-before a b same (line (get_or paths i d).now) g (get_or paths i d).now one answer) text_is status_is)

all-answered : (allowed : Allowed) (g : Ground) (paths : List (List ℕ)) (o : Output) → AreSoFar allowed g paths o.text o.status → AreAnswers allowed g paths o
all-answered allowed g paths o (outputs, (each, (text, status))) = record { outputs = outputs; each = each; text = text; status = status }

-- ---- as they are written

-- the lines for some paths are written, and this is the worst status
pub record AreWritten (allowed : Allowed) (g : Ground) (paths : List (List ℕ)) (status : ℕ) (old new : Option (List ℕ)) : Type 0 where
  pub text : List ℕ
  pub lines : AreSoFar allowed g paths text status
  pub is_text : Appends old new text

pub none-written : (allowed : Allowed) (g : Ground) (old : Option (List ℕ)) → AreWritten allowed g [] 0 old old
none-written allowed g old = record { text = []; lines = none-so-far allowed g; is_text = Appends-nil old }

-- the line for one more path, after folders were asked that allow the same
pub written-more : (a b : Allowed) (g : Ground) (paths : List (Bor (List ℕ))) (i : ℕ) (d : Bor (List ℕ)) (status next : ℕ) (old mid new : Option (List ℕ)) (one : Output)
    → AllowSame a b → i < length paths → AreWritten a g (map (λ p. p.now) (take i paths)) status old mid
    → IsAnswer b (line (get_or paths i d).now) g (get_or paths i d).now one → Appends mid new one.text → next ≡ max status one.status
    → AreWritten a g (map (λ p. p.now) (take (i + 1) paths)) next old new
written-more a b g paths i d status next old mid new one same low so_far answer more next_is = record {
  text = so_far.text ++ one.text;
  lines = answered-more a b g paths i d so_far.text (so_far.text ++ one.text) status next same low so_far.lines (one, (answer, (refl, next_is)));
  is_text = Appends-trans old mid new so_far.text one.text so_far.is_text more;
}

-- all lines are written
pub all-written : (allowed : Allowed) (g : Ground) (paths : List (Bor (List ℕ))) (i status : ℕ) (old new : Option (List ℕ)) → length paths ≤ i
    → AreWritten allowed g (map (λ p. p.now) (take i paths)) status old new → Writes (AreAnswers allowed g (map (λ p. p.now) paths)) status old new
all-written allowed g paths i status old new all w =
    let o : Output = record { text = w.text; status = status } in
    let lines = subst (λ ps. AreSoFar allowed g (map (λ (p : Bor (List ℕ)). p.now) ps) w.text status) (take_all i paths all) w.lines in
    record { output = o; is_output = all-answered allowed g (map (λ p. p.now) paths) o lines; status_is = refl; text = w.is_text }

-- the lines for the first paths are written
pub first-written : (allowed : Allowed) (g : Ground) (paths : List (Bor (List ℕ))) (i status : ℕ) (old new : Option (List ℕ))
    → AreWritten allowed g (map (λ p. p.now) (take i paths)) status old new → WritesFirst allowed g (map (λ p. p.now) paths) old new
first-written allowed g paths i status old new w =
    let o : Output = record { text = w.text; status = status } in
    let lines = subst (λ ps. AreSoFar allowed g ps w.text status) (sym (take-map (λ (p : Bor (List ℕ)). p.now) i paths)) w.lines in
    record { number = i; output = o; answers = all-answered allowed g (take i (map (λ p. p.now) paths)) o lines; text = w.is_text }
