-- The check of a lockfile by the advisories that bear on its packages, which alone are kept of the database.
use Rattle.std.proofs.Common.{◌≡◌, ◌⊎◌, ◌∙◌, ℕ, Bool, Err, List, Ok, Option, None, Result, Some, false, true, inl, inr, length, refl, subst, sym}
use Rattle.std.specs.Prelude.{IfOk}
use Rattle.rustsec_values.specs.Failure.{Failure, IsRefusal}
use Rattle.rustsec_values.specs.declared.error.ErrorKind.TheVariants as kind
use Rattle.rustsec_values.proofs.Refusals.{refused_by}
use Rattle.rustsec_files.specs.Allowed.{Allowed, AllowSame}
use Rattle.rustsec_files.proofs.Same.{same-trans}
use Rattle.rustsec_lock.specs.Lockfile.{IsLockfileRefusal}
use Rattle.rustsec_lock.specs.Package.{PackageValue}
use Rattle.rustsec_texts.specs.Ids.{IdValue}
use Rattle.rustsec_advisory.specs.declared.advisory.Advisory.{Advisory}
use Rattle.rustsec_database.specs.Kept.{AreOpenedFor, IsKept, KeptValue, PassesBearing, bears_on_any}
use Rattle.rustsec_database.specs.Opened.{AreOpened}
use Rattle.rustsec_check.specs.Checks.{IsCheckOf}
use Rattle.rustsec_check.specs.Values.{SubjectValue, YankedValue}
use Rattle.rustsec_check.proofs.KeptChecks.{kept-yanked}
use Rattle.rustsec_check_output.specs.CheckTree.{DatedValue, dated_of}
use Rattle.rustsec_registry.specs.declared.index.yanked.YankedPackages.{YankedPackages}
use Rattle.rustsec_commands.specs.Output.{Output}
use Rattle.rustsec_program.specs.Checked.{AreYankedIf, Form, FoundValue, IsCheckedOutput, IsCheckedRefusal, IsFound, IsLockfileOutput, IsOutputFor, basis_of, is_empty, places_of, subject_of}
use Rattle.rustsec_program.specs.Locked.{AreLoadedAt, IsBaselineAt, IsBaselineRefusal, IsIndexRefusal, IsLoadRefusal, IsLockedAt, IsYankedAt, LoadedValue, LockedValue, Places, unbased, unindexed, unlocked}
use Rattle.rustsec_program.specs.Plan.{PlanValue}
use Rattle.rustsec_program.proofs.Before.{baseline-before, baseline-refused-before, index-before, index-refused-before, opened-before}
use Rattle.rustsec_program.proofs.Grounds.{ground}

-- ---- what was loaded beside a lockfile that was read before

-- the others, by what folders allow
abbrev pub AreOthersAt : Allowed → Places → LockedValue → LoadedValue → Type 0
AreOthersAt b at r l = (l.locked ≡ r) × (IsBaselineAt b at.baseline l.baseline × IsYankedAt b at.index r.packages l.yanked)

abbrev pub IsOtherRefusal : Allowed → Places → LockedValue → Failure → Type 0
IsOtherRefusal b at r e =
    IsBaselineRefusal b at.baseline e
    ⊎ ((o : Option (List PackageValue)) × (IsBaselineAt b at.baseline o × IsIndexRefusal b at.index r.packages e))

module _ (a b : Allowed) (same : AllowSame a b) (at : Places) (r : LockedValue) where
  pub loaded-by : (l : LoadedValue) → IsLockedAt a at.lock r → AreOthersAt b at r l → AreLoadedAt a at l
  loaded-by l locked (is, (baseline, yanked)) = record {
    locked = subst (λ x. IsLockedAt a at.lock x) (sym is) locked;
    baseline = baseline-before a b same at.baseline l.baseline baseline;
    yanked = subst (λ (x : LockedValue). IsYankedAt a at.index x.packages l.yanked) (sym is) (index-before a b same at.index r.packages l.yanked yanked);
  }

  pub loaded-with : (answer : Result LoadedValue Failure) → IsLockedAt a at.lock r → IfOk answer (λ l. l.locked ≡ r)
      → IfOk answer (λ l. IsBaselineAt b at.baseline l.baseline) → IfOk answer (λ l. IsYankedAt b at.index r.packages l.yanked)
      → IfOk answer (AreLoadedAt a at)
  loaded-with (Ok l) locked is baseline yanked = loaded-by l locked (is, (baseline, yanked))
  loaded-with (Err e) locked is baseline yanked = tt

  pub unloaded-with : (e : Failure) → IsLockedAt a at.lock r → IsOtherRefusal b at r e → IsLoadRefusal a at e
  unloaded-with e locked (inl h) = unbased r locked (baseline-refused-before a b same at.baseline e h)
  unloaded-with e locked (inr (o, (baseline, h))) =
      unindexed r o locked (baseline-before a b same at.baseline o baseline) (index-refused-before a b same at.index r.packages e h)

-- ---- what is found by the kept advisories

yanked-kept : (s : SubjectValue) (all : List Advisory) (y : Option YankedPackages) (found : Option (List YankedValue)) → AreYankedIf s y found
    → AreYankedIf (record s { advisories = all }) y found
yanked-kept s all None found h = h
yanked-kept s all (Some y) found (ys, (are, is)) = (ys, (kept-yanked s all y.packages ys are, is))

pub kept-found : (p : PlanValue) (ids : List IdValue) (k : KeptValue) (l : LoadedValue) (f h : FoundValue) → ids ≡ p.wanted.settings.ignore
    → ((all : List Advisory) (s : SubjectValue) (test : Advisory → Bool) → PassesBearing test s.packages → IsKept test all k → s.advisories ≡ k.advisories
    → s.settings.ignore ≡ ids → IsCheckOf s f.check → IsCheckOf (record s { advisories = all }) h.check)
    → h.yanked ≡ f.yanked → IsFound (ground p k.advisories) l f → (all : List Advisory) → IsKept (bears_on_any l.locked.packages) all k
    → IsFound (ground p all) l h
kept-found p ids k l f h ids_are more same is all kept =
    let s = subject_of (ground p k.advisories) l in
    record {
      check = more all s (bears_on_any s.packages) (λ a h. h) kept refl (sym ids_are) is.check;
      yanked = subst (AreYankedIf (record s { advisories = all }) l.yanked) (sym same) (yanked-kept s all l.yanked f.yanked is.yanked);
    }

pub all-found : (p : PlanValue) (ids : List IdValue) (k : KeptValue) (l : LoadedValue) (f : FoundValue) (answer : Result FoundValue Failure)
    → ids ≡ p.wanted.settings.ignore
    → IfOk answer (λ h. (all : List Advisory) (s : SubjectValue) (test : Advisory → Bool) → PassesBearing test s.packages → IsKept test all k
    → s.advisories ≡ k.advisories
    → s.settings.ignore ≡ ids → IsCheckOf s f.check → IsCheckOf (record s { advisories = all }) h.check)
    → IfOk answer (λ h. h.yanked ≡ f.yanked) → IsFound (ground p k.advisories) l f
    → IfOk answer (λ h. (all : List Advisory) → IsKept (bears_on_any l.locked.packages) all k → IsFound (ground p all) l h)
all-found p ids k l f (Ok h) ids_are more same is = kept-found p ids k l f h ids_are more same is
all-found p ids k l f (Err e) ids_are more same is = tt

-- how many advisories there are, and their latest date
dated-kept : (d : DatedValue) (test : Advisory → Bool) (k : KeptValue) (all : List Advisory) → d ≡ record { count = length k.ids; last_date = k.last_date }
    → IsKept test all k → d ≡ dated_of all
dated-kept d test k all is h = is ∙ (λ i. record { count = h.number i; last_date = h.last_date i })

module _ (p : PlanValue) (d : DatedValue) (k : KeptValue) (l : LoadedValue) (is : d ≡ record { count = length k.ids; last_date = k.last_date })
    (all : List Advisory) (kept : IsKept (bears_on_any l.locked.packages) all k) where
  same-database : d ≡ dated_of all
  same-database = dated-kept d (bears_on_any l.locked.packages) k all is kept

  pub kept-empty : (e : Failure) → IsRefusal kind.NotFound (is_empty (record { plan = p; database = d }) l ≡ true) e
      → IsRefusal kind.NotFound (is_empty (basis_of (ground p all)) l ≡ true) e
  kept-empty e h = refused_by kind.NotFound e (λ none. subst (λ (x : DatedValue). is_empty (record { plan = p; database = x }) l ≡ true) same-database none) h

  pub kept-checked : (form : Form) (f : FoundValue) (o : Output) → is_empty (record { plan = p; database = d }) l ≡ false → IsFound (ground p all) l f
      → IsOutputFor form (record { plan = p; database = d }) l f o → IsCheckedOutput form (ground p all) l o
  kept-checked form f o some found output = record {
    is_not_empty = subst (λ (x : DatedValue). is_empty (record { plan = p; database = x }) l ≡ false) same-database some;
    found = f;
    is_found = found;
    is_output = subst (λ (x : DatedValue). IsOutputFor form (record { plan = p; database = x }) l f o) same-database output;
  }

-- ---- the lockfile is read, then the database, then the others

module _ (a b c : Allowed) (read : AllowSame a b) (opened : AllowSame b c) (root lock : List ℕ) (p : PlanValue) (r : LockedValue)
    (packages : List PackageValue) (k : KeptValue) (at : Places) (at_is : at ≡ places_of p lock) where
  -- a result by all advisories, where some of them were kept
  by-all : (R : List Advisory → Type 0) → AreOpenedFor b root (bears_on_any packages) k → packages ≡ r.packages
      → ((all : List Advisory) → IsKept (bears_on_any r.packages) all k → R all) → (all : List Advisory) × (AreOpened a root all × R all)
  by-all R (all, (there, kept)) is made =
      (all, (opened-before a b read root all there, made all (subst (λ (ps : List PackageValue). IsKept (bears_on_any ps) all k) is kept)))

  pub checked-by-kept : (form : Form) (l : LoadedValue) (o : Output) → AreOpenedFor b root (bears_on_any packages) k → packages ≡ r.packages
      → IsLockedAt a lock r → AreOthersAt c at r l
      → ((all : List Advisory) → IsKept (bears_on_any l.locked.packages) all k → IsCheckedOutput form (ground p all) l o)
      → (all : List Advisory) × (AreOpened a root all × IsLockfileOutput a form (ground p all) lock o)
  checked-by-kept form l o there is locked others made =
      let beside = subst (λ (x : Places). AreOthersAt c x r l) at_is others in
      let loaded = loaded-by a c (same-trans a b c read opened) (places_of p lock) r l locked beside in
      by-all (λ all. IsLockfileOutput a form (ground p all) lock o) there is
      (λ all kept. (l, (loaded, made all (subst (λ (x : LockedValue). IsKept (bears_on_any x.packages) all k) (sym others.0) kept))))

  pub refused-by-kept : (l : LoadedValue) (e : Failure) → AreOpenedFor b root (bears_on_any packages) k → packages ≡ r.packages
      → IsLockedAt a lock r → AreOthersAt c at r l
      → ((all : List Advisory) → IsKept (bears_on_any l.locked.packages) all k → IsRefusal kind.NotFound (is_empty (basis_of (ground p all)) l ≡ true) e)
      → (all : List Advisory) × (AreOpened a root all × IsCheckedRefusal a (ground p all) lock e)
  refused-by-kept l e there is locked others made =
      let beside = subst (λ (x : Places). AreOthersAt c x r l) at_is others in
      let loaded = loaded-by a c (same-trans a b c read opened) (places_of p lock) r l locked beside in
      by-all (λ all. IsCheckedRefusal a (ground p all) lock e) there is
      (λ all kept. inr (l, (loaded, made all (subst (λ (x : LockedValue). IsKept (bears_on_any x.packages) all k) (sym others.0) kept))))

  pub others-refused : (e : Failure) → AreOpenedFor b root (bears_on_any packages) k → IsLockedAt a lock r → IsOtherRefusal c at r e
      → (all : List Advisory) × (AreOpened a root all × IsCheckedRefusal a (ground p all) lock e)
  others-refused e (all, (there, kept)) locked h =
      let refused = subst (λ (x : Places). IsOtherRefusal c x r e) at_is h in
      (all, (opened-before a b read root all there, inl (unloaded-with a c (same-trans a b c read opened) (places_of p lock) r e locked refused)))

-- the lockfile was refused
pub lockfile-refused : (a b : Allowed) → AllowSame a b → (root lock : List ℕ) (p : PlanValue) (packages : List PackageValue) (k : KeptValue) (e : Failure)
    → AreOpenedFor b root (bears_on_any packages) k → IsLockfileRefusal a lock e
    → (all : List Advisory) × (AreOpened a root all × IsCheckedRefusal a (ground p all) lock e)
lockfile-refused a b same root lock p packages k e (all, (at, kept)) h = (all, (opened-before a b same root all at, inl (unlocked h)))
