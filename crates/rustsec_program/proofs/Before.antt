-- What holds by the answers that folders allow later holds by those that they allowed before, where these are the same.
use Rattle.std.proofs.Common.{ℕ, List, Option, None, Some, inl, inr}
use Rattle.rustsec_values.specs.Failure.{Failure}
use Rattle.rustsec_values.specs.declared.error.ErrorKind.TheVariants as kind
use Rattle.rustsec_values.proofs.Refusals.{refused_by}
use Rattle.rustsec_files.specs.Allowed.{Allowed, AllowSame}
use Rattle.rustsec_files.proofs.Same.{all-of-same, listed-before}
use Rattle.rustsec_lock.specs.Lockfile.{IsLockfileAt, IsLockfileRefusal}
use Rattle.rustsec_lock.specs.Package.{PackageValue}
use Rattle.rustsec_advisory.specs.declared.advisory.Advisory.{Advisory}
use Rattle.rustsec_database.specs.Opened.{AreOpened, IsOpenRefusal}
use Rattle.rustsec_commands.specs.Output.{Output}
use Rattle.rustsec_program.specs.Checked.{Form, Ground, IsAnswer, IsCheckedRefusal, IsLockfileOutput, checked, places_of, refused}
use Rattle.rustsec_registry.specs.declared.index.yanked.YankedPackages.{YankedPackages}
use Rattle.rustsec_registry.proofs.index.Before.{yanked-before, yanked-refused-before}
use Rattle.rustsec_program.specs.Locked.{AreLoadedAt, IsBaselineAt, IsBaselineRefusal, IsIndexRefusal, IsLoadRefusal, IsLockedAt, IsYankedAt, LoadedValue, LockedValue, Places, unbased, unindexed, unlocked}

module _ (a b : Allowed) (same : AllowSame a b) where
  -- ---- lockfiles

  pub locked-before : (path : List ℕ) (l : LockedValue) → IsLockedAt b path l → IsLockedAt a path l
  locked-before path l (text, (read, is)) = (text, ((same.reads path (Some text)).1 read, is))

  pub lockfile-before : (path : List ℕ) (ps : List PackageValue) → IsLockfileAt b path ps → IsLockfileAt a path ps
  lockfile-before path ps (text, (read, is)) = (text, ((same.reads path (Some text)).1 read, is))

  pub lockfile-refused-before : (path : List ℕ) (e : Failure) → IsLockfileRefusal b path e → IsLockfileRefusal a path e
  lockfile-refused-before path e (inl h) = inl (refused_by kind.Io e (λ fails. (same.reads path None).1 fails) h)
  lockfile-refused-before path e (inr (text, (read, h))) = inr (text, ((same.reads path (Some text)).1 read, h))

  pub baseline-before : (old : Option (List ℕ)) (ps : Option (List PackageValue)) → IsBaselineAt b old ps → IsBaselineAt a old ps
  baseline-before None ps h = h
  baseline-before (Some path) ps (packages, (read, is)) = (packages, (lockfile-before path packages read, is))

  pub baseline-refused-before : (old : Option (List ℕ)) (e : Failure) → IsBaselineRefusal b old e → IsBaselineRefusal a old e
  baseline-refused-before None e h = h
  baseline-refused-before (Some path) e h = lockfile-refused-before path e h

  pub index-before : (index : Option (List ℕ)) (ps : List PackageValue) (y : Option YankedPackages) → IsYankedAt b index ps y → IsYankedAt a index ps y
  index-before None ps y h = h
  index-before (Some index) ps y (yanked, (is, so)) = (yanked, (yanked-before a b same index ps yanked is, so))

  pub index-refused-before : (index : Option (List ℕ)) (ps : List PackageValue) (e : Failure) → IsIndexRefusal b index ps e → IsIndexRefusal a index ps e
  index-refused-before None ps e h = h
  index-refused-before (Some index) ps e h = yanked-refused-before a b same index ps e h

  pub loaded-before : (at : Places) (l : LoadedValue) → AreLoadedAt b at l → AreLoadedAt a at l
  loaded-before at l h = record {
    locked = locked-before at.lock l.locked h.locked;
    baseline = baseline-before at.baseline l.baseline h.baseline;
    yanked = index-before at.index l.locked.packages l.yanked h.yanked;
  }

  pub load-refused-before : (at : Places) (e : Failure) → IsLoadRefusal b at e → IsLoadRefusal a at e
  load-refused-before at e (unlocked h) = unlocked (lockfile-refused-before at.lock e h)
  load-refused-before at e (unbased l locked h) = unbased l (locked-before at.lock l locked) (baseline-refused-before at.baseline e h)
  load-refused-before at e (unindexed l ps locked baseline h) =
      unindexed l ps (locked-before at.lock l locked) (baseline-before at.baseline ps baseline) (index-refused-before at.index l.packages e h)

  -- ---- checks

  pub output-before : (form : Form) (g : Ground) (path : List ℕ) (o : Output) → IsLockfileOutput b form g path o → IsLockfileOutput a form g path o
  output-before form g path o (l, (loaded, is)) = (l, (loaded-before (places_of g.plan path) l loaded, is))

  pub check-refused-before : (g : Ground) (path : List ℕ) (e : Failure) → IsCheckedRefusal b g path e → IsCheckedRefusal a g path e
  check-refused-before g path e (inl h) = inl (load-refused-before (places_of g.plan path) e h)
  check-refused-before g path e (inr (l, (loaded, h))) = inr (l, (loaded-before (places_of g.plan path) l loaded, h))

  pub answer-before : (form : Form) (g : Ground) (path : List ℕ) (o : Output) → IsAnswer b form g path o → IsAnswer a form g path o
  answer-before form g path o (checked h) = checked (output-before form g path o h)
  answer-before form g path o (refused e h other is) = refused e (check-refused-before g path e h) other is

  -- ---- databases

  pub opened-before : (root : List ℕ) (advisories : List Advisory) → AreOpened b root advisories → AreOpened a root advisories
  opened-before root advisories (files, (listed, loaded)) = (files, (listed-before a b root (Some files) (all-of-same a b same) listed, loaded))

  pub open-refused-before : (root : List ℕ) (e : Failure) → IsOpenRefusal b root e → IsOpenRefusal a root e
  open-refused-before root e (inl h) = inl (refused_by kind.Io e (λ fails. listed-before a b root None (all-of-same a b same) fails) h)
  open-refused-before root e (inr (files, (listed, h))) = inr (files, (listed-before a b root (Some files) (all-of-same a b same) listed, h))
