-- If each path has one answer, a policy, a plan, a lockfile and an index have one reading, or one kind of refusal.
use Rattle.std.proofs.Common.{◌≡◌, ◌≢◌, ◌⊎◌, ◌∙◌, ℕ, Bool, List, [], Option, None, Some, false, true, ap, inl, inr, subst, sym}
use Rattle.std.specs.List.{filter}
use Rattle.std.proofs.lemmas.List.Elements.{All-nil}
use Rattle.toml.specs.Data.{Data, Items, Members, as_array, get_member}
use Rattle.toml.specs.Parse.{parse_document}
use Rattle.std.specs.Prelude.{codes}
use Rattle.rustsec_values.specs.Reading.{◌>>=◌, read_all, value_or}
use Rattle.rustsec_toml.specs.Fields.{every, list_of}
use Rattle.rustsec_values.specs.Failure.{Failure, IsMemory, IsRefusal}
use Rattle.rustsec_values.specs.declared.error.ErrorKind.{ErrorKind}
use Rattle.rustsec_values.specs.declared.error.ErrorKind.TheVariants as kind
use Rattle.rustsec_files.specs.Allowed.{Allowed, AnswersOnce}
use Rattle.rustsec_files.proofs.Once.{read-or-not, text-once}
use Rattle.rustsec_lock.specs.Lockfile.{AreValid, IsLockfileAt, IsLockfileRefusal, lockfile_of, package_of, packages_of}
use Rattle.rustsec_lock.specs.Package.{PackageValue}
use Rattle.rustsec_lock.proofs.ValidVersions.{values_valid}
use Rattle.rustsec_graph.specs.Graph.{graph_of}
use Rattle.rustsec_policy.specs.Policies.{policy_of}
use Rattle.rustsec_policy.specs.declared.policy.Policy.{Policy}
use Rattle.rustsec_database.proofs.Once.{open-refused-once, opened-once, opened-or-refused}
use Rattle.rustsec_registry.specs.declared.index.yanked.YankedPackages.{YankedPackages}
use Rattle.rustsec_registry.proofs.index.Once.{yanked-once, yanked-or-refused, yanked-refused-once}
use Rattle.rustsec_check_output.specs.CheckTree.{refused_tree}
use Rattle.rustsec_json.specs.Lines.{tree_line}
use Rattle.rustsec_commands.specs.Output.{Output, refused_as}
use Rattle.rustsec_program.specs.Check.{IsGround, IsGroundRefusal}
use Rattle.rustsec_program.specs.CheckOptions.{CheckOption, last_value}
use Rattle.rustsec_program.specs.Checked.{Ground, line, refusal_output}
use Rattle.rustsec_program.specs.Locked.{AreLoadedAt, IsBaselineAt, IsBaselineRefusal, IsIndexRefusal, IsLoadRefusal, IsLockedAt, IsYankedAt, LoadedValue, LockedValue, Places, unbased, unindexed, unlocked}
use Rattle.rustsec_program.specs.Plan.{IsPlan, IsPlanRefusal, PlanValue, counts_on, misread, undated, unruled}
use Rattle.rustsec_program.specs.Wanted.{FailsAtPolicy, IsPolicyAt, IsPolicyRefusal, IsPolicyText, request_of, wanted}
use Rattle.rustsec_program.specs.declared.keys.Key.TheVariants as key

-- ---- values that a reader gives

not-memory : {P : Type 0} (e : Failure) → e.kind ≢ kind.OutOfMemory → IsMemory e → P
not-memory e other memory = absurd (other (ap (λ (f : Failure). f.kind) memory))

pub real : {P : Type 0} (k : ErrorKind) (e : Failure) → e.kind ≢ kind.OutOfMemory → IsRefusal k P e → (e.kind ≡ k) × P
real k e other (inl h) = h
real k e other (inr memory) = not-memory e other memory

some-same : {A : Type 0} (a b : A) → Some a ≡ Some b → a ≡ b
some-same a b h = cc h

pub one-value : {A : Type 0} (o : Option A) (a b : A) → o ≡ Some a → o ≡ Some b → a ≡ b
one-value o a b h k = some-same a b (sym h ∙ k)

pub none-or-some : {A P : Type 0} (o : Option A) (a : A) → o ≡ None → o ≡ Some a → P
none-or-some o a h k = absurd (cc (sym h ∙ k))

pub true-or-false : {P : Type 0} (b : Bool) → b ≡ true → b ≡ false → P
true-or-false b h k = absurd (cc (sym h ∙ k))

pub same-refusal : (e f : Failure) (o p : Output) → e.kind ≡ f.kind → o ≡ refused_as e.kind → p ≡ refused_as f.kind → o ≡ p
same-refusal e f o p same h k = h ∙ (ap refused_as same ∙ sym k)

kinds-of : (e f : Failure) → e.kind ≢ kind.OutOfMemory → f.kind ≢ kind.OutOfMemory → (e.kind ≡ f.kind) ⊎ (IsMemory e ⊎ IsMemory f) → e.kind ≡ f.kind
kinds-of e f u v (inl same) = same
kinds-of e f u v (inr (inl memory)) = not-memory e u memory
kinds-of e f u v (inr (inr memory)) = not-memory f v memory

-- ---- lockfiles have packages with valid versions

array-valid : (o : Option Items) (ps : List PackageValue) → (o >>= λ ds. read_all package_of (list_of ds)) ≡ Some ps → AreValid ps
array-valid None ps h = cc h
array-valid (Some ds) ps h = values_valid _ ps h

value-valid : (o : Option Data) (ps : List PackageValue) → value_or [] (every package_of) o ≡ Some ps → AreValid ps
value-valid None ps h = subst (λ (qs : List PackageValue). AreValid qs) (some-same [] ps h) (All-nil _)
value-valid (Some d) ps h = array-valid (as_array d) ps h

packages-valid : (table : Members) (ps : List PackageValue) → packages_of table ≡ Some ps → AreValid ps
packages-valid table ps h = value-valid (get_member (codes "package") table) ps h

-- a table that has packages is not refused
holds-packages : {P : Type 0} (document : Option Members) (table : Members) (packages : List PackageValue) → document ≡ Some table
    → packages_of table ≡ Some packages → document >>= packages_of ≡ None → P
holds-packages None table packages is h missing = absurd (cc is)
holds-packages (Some other) table packages is h missing =
    none-or-some (packages_of table) packages (subst (λ (t : Members). packages_of t ≡ None) (some-same other table is) missing) h

-- the lines of refusals of the same kind
pub line-same : (path : List ℕ) (e f : Failure) (o p : Output) → e.kind ≡ f.kind → o ≡ refusal_output (line path) e → p ≡ refusal_output (line path) f → o ≡ p
line-same path e f o p same h k =
    let step : refusal_output (line path) e ≡ refusal_output (line path) f = λ i. record { text = tree_line (refused_tree path (same i)); status = 2 } in
    h ∙ (step ∙ sym k)

module _ (allowed : Allowed) (once : AnswersOnce allowed) where
  -- ---- policies

  policy-text-once : (path : Option (List ℕ)) (a b : List ℕ) → IsPolicyText allowed path a → IsPolicyText allowed path b → a ≡ b
  policy-text-once None a b h k = h ∙ sym k
  policy-text-once (Some path) a b h k = text-once allowed once path a b h k

  policy-read-or-not : {P : Type 0} (path : Option (List ℕ)) (a : List ℕ) → IsPolicyText allowed path a → FailsAtPolicy allowed path → P
  policy-read-or-not None a h k = absurd k
  policy-read-or-not (Some path) a h k = read-or-not allowed once path a h k

  policy-once : (path : Option (List ℕ)) (p q : Policy) → IsPolicyAt allowed path p → IsPolicyAt allowed path q → p ≡ q
  policy-once path p q (text, (read, is)) (other, (again, also)) =
      let same = policy-text-once path text other read again in
      one-value (policy_of other) p q (subst (λ (t : List ℕ). policy_of t ≡ Some p) same is) also

  policy-or-refused : {P : Type 0} (path : Option (List ℕ)) (p : Policy) (e : Failure) → e.kind ≢ kind.OutOfMemory → IsPolicyAt allowed path p
      → IsPolicyRefusal allowed path e → P
  policy-or-refused path p e u (text, (read, is)) (inl h) = policy-read-or-not path text read (real kind.Io e u h).1
  policy-or-refused path p e u (text, (read, is)) (inr (other, (again, h))) =
      let same = policy-text-once path other text again read in
      none-or-some (policy_of text) p (subst (λ (t : List ℕ). policy_of t ≡ None) same (real kind.Parse e u h).1) is

  policy-refused-once : (path : Option (List ℕ)) (e f : Failure) → e.kind ≢ kind.OutOfMemory → f.kind ≢ kind.OutOfMemory
      → IsPolicyRefusal allowed path e → IsPolicyRefusal allowed path f → e.kind ≡ f.kind
  policy-refused-once path e f u v (inl h) (inl k) = (real kind.Io e u h).0 ∙ sym (real kind.Io f v k).0
  policy-refused-once path e f u v (inl h) (inr (text, (read, k))) = policy-read-or-not path text read (real kind.Io e u h).1
  policy-refused-once path e f u v (inr (text, (read, h))) (inl k) = policy-read-or-not path text read (real kind.Io f v k).1
  policy-refused-once path e f u v (inr (text, (read, h))) (inr (other, (again, k))) = (real kind.Parse e u h).0 ∙ sym (real kind.Parse f v k).0

  -- ---- plans

  plan-once : (options : List CheckOption) (p q : PlanValue) → IsPlan allowed options p → IsPlan allowed options q → p ≡ q
  plan-once options p q h k =
      let request : h.request ≡ k.request = one-value (request_of options) h.request k.request h.is_request k.is_request in
      let policy : h.policy ≡ k.policy = policy-once (last_value key.Policy options) h.policy k.policy h.is_policy k.is_policy in
      let is_wanted : wanted h.policy h.request ≡ wanted k.policy k.request = λ i. wanted (policy i) (request i) in
      let same_wanted : p.wanted ≡ q.wanted = one-value (wanted h.policy h.request) p.wanted q.wanted h.is_wanted (is_wanted ∙ k.is_wanted) in
      let entries : p.entries ≡ q.entries
      = h.entries ∙ ((λ i. filter (counts_on (request i).today) (policy i).advisories.ignore) ∙ sym k.entries) in
      let baseline : p.baseline ≡ q.baseline = h.baseline ∙ sym k.baseline in
      let allow_empty : p.allow_empty ≡ q.allow_empty = h.allow_empty ∙ sym k.allow_empty in
      let shows_progress : p.shows_progress ≡ q.shows_progress = h.shows_progress ∙ sym k.shows_progress in
      λ i. record {
        entries = entries i;
        wanted = same_wanted i;
        baseline = baseline i;
        allow_empty = allow_empty i;
        shows_progress = shows_progress i;
      }

  plan-or-refused : {P : Type 0} (options : List CheckOption) (p : PlanValue) (e : Failure) → e.kind ≢ kind.OutOfMemory → IsPlan allowed options p
      → IsPlanRefusal allowed options e → P
  plan-or-refused options p e u h (misread k) = none-or-some (request_of options) h.request (real kind.Parse e u k).1 h.is_request
  plan-or-refused options p e u h (unruled r is k) = policy-or-refused (last_value key.Policy options) h.policy e u h.is_policy k
  plan-or-refused options p e u h (undated r policy is is_policy k) =
      let request : r ≡ h.request = one-value (request_of options) r h.request is h.is_request in
      let same : policy ≡ h.policy = policy-once (last_value key.Policy options) policy h.policy is_policy h.is_policy in
      let missing : wanted h.policy h.request ≡ None = (λ i. wanted (sym same i) (sym request i)) ∙ (real kind.BadParam e u k).1 in
      none-or-some (wanted h.policy h.request) p.wanted missing h.is_wanted

  plan-refused-once : (options : List CheckOption) (e f : Failure) → e.kind ≢ kind.OutOfMemory → f.kind ≢ kind.OutOfMemory
      → IsPlanRefusal allowed options e → IsPlanRefusal allowed options f → e.kind ≡ f.kind
  plan-refused-once options e f u v (misread h) (misread k) = (real kind.Parse e u h).0 ∙ sym (real kind.Parse f v k).0
  plan-refused-once options e f u v (misread h) (unruled r is k) = none-or-some (request_of options) r (real kind.Parse e u h).1 is
  plan-refused-once options e f u v (misread h) (undated r p is is_policy k) = none-or-some (request_of options) r (real kind.Parse e u h).1 is
  plan-refused-once options e f u v (unruled r is h) (misread k) = none-or-some (request_of options) r (real kind.Parse f v k).1 is
  plan-refused-once options e f u v (unruled r is h) (unruled s also k) = policy-refused-once (last_value key.Policy options) e f u v h k
  plan-refused-once options e f u v (unruled r is h) (undated s p also is_policy k) = policy-or-refused (last_value key.Policy options) p e u is_policy h
  plan-refused-once options e f u v (undated r p is is_policy h) (misread k) = none-or-some (request_of options) r (real kind.Parse f v k).1 is
  plan-refused-once options e f u v (undated r p is is_policy h) (unruled s also k) = policy-or-refused (last_value key.Policy options) p f v is_policy k
  plan-refused-once options e f u v (undated r p is is_policy h) (undated s q also again k) = (real kind.BadParam e u h).0 ∙ sym (real kind.BadParam f v k).0

  -- ---- plans and databases

  pub ground-once : (root : List ℕ) (options : List CheckOption) (g h : Ground) → IsGround allowed root options g → IsGround allowed root options h → g ≡ h
  ground-once root options g h (planned, opened) (again, also) =
      let plan = plan-once options g.plan h.plan planned again in
      let advisories = opened-once allowed once root g.advisories h.advisories opened also in
      λ i. record { plan = plan i; advisories = advisories i }

  pub ground-or-refused : {P : Type 0} (root : List ℕ) (options : List CheckOption) (g : Ground) (e : Failure) → e.kind ≢ kind.OutOfMemory
      → IsGround allowed root options g → IsGroundRefusal allowed root options e → P
  ground-or-refused root options g e u (planned, opened) (inl h) = plan-or-refused options g.plan e u planned h
  ground-or-refused root options g e u (planned, opened) (inr (p, h)) = not-memory e u (opened-or-refused allowed once root g.advisories e opened h)

  pub ground-refused-once : (root : List ℕ) (options : List CheckOption) (e f : Failure) → e.kind ≢ kind.OutOfMemory → f.kind ≢ kind.OutOfMemory
      → IsGroundRefusal allowed root options e → IsGroundRefusal allowed root options f → e.kind ≡ f.kind
  ground-refused-once root options e f u v (inl h) (inl k) = plan-refused-once options e f u v h k
  ground-refused-once root options e f u v (inl h) (inr (p, k)) = plan-or-refused options p.0 e u p.1 h
  ground-refused-once root options e f u v (inr (p, h)) (inl k) = plan-or-refused options p.0 f v p.1 k
  ground-refused-once root options e f u v (inr (p, h)) (inr (q, k)) = kinds-of e f u v (open-refused-once allowed once root e f h k)

  -- ---- lockfiles

  locked-once : (path : List ℕ) (l m : LockedValue) → IsLockedAt allowed path l → IsLockedAt allowed path m → l ≡ m
  locked-once path l m (text, (read, (is, (table, (document, (are, graph)))))) (other, (again, (is', (table', (document', (are', graph')))))) =
      let same = text-once allowed once path text other read again in
      let texts : l.text ≡ m.text = is ∙ (same ∙ sym is') in
      let tables : table ≡ table' = one-value (parse_document other) table table' (subst (λ (t : List ℕ). parse_document t ≡ Some table) same document) document' in
      let packages : l.packages ≡ m.packages
      = one-value (packages_of table') l.packages m.packages (subst (λ (t : Members). packages_of t ≡ Some l.packages) tables are) are' in
      let graphs : l.graph ≡ m.graph = graph ∙ ((λ i. graph_of (tables i) (packages i)) ∙ sym graph') in
      λ i. record { text = texts i; packages = packages i; graph = graphs i }

  pub locked-valid : (path : List ℕ) (l : LockedValue) → IsLockedAt allowed path l → AreValid l.packages
  locked-valid path l (text, (read, (is, (table, (document, (are, graph)))))) = packages-valid table l.packages are

  locked-or-refused : {P : Type 0} (path : List ℕ) (l : LockedValue) (e : Failure) → e.kind ≢ kind.OutOfMemory → IsLockedAt allowed path l
      → IsLockfileRefusal allowed path e → P
  locked-or-refused path l e u (text, (read, is)) (inl h) = read-or-not allowed once path text read (real kind.Io e u h).1
  locked-or-refused path l e u (text, (read, (is, (table, (document, (are, graph)))))) (inr (other, (again, h))) =
      let same = text-once allowed once path other text again read in
      holds-packages (parse_document text) table l.packages document are
      (subst (λ (t : List ℕ). lockfile_of t ≡ None) same (real kind.Parse e u h).1)

  pub lockfile-once : (path : List ℕ) (ps qs : List PackageValue) → IsLockfileAt allowed path ps → IsLockfileAt allowed path qs → ps ≡ qs
  lockfile-once path ps qs (text, (read, is)) (other, (again, also)) =
      let same = text-once allowed once path text other read again in
      one-value (lockfile_of other) ps qs (subst (λ (t : List ℕ). lockfile_of t ≡ Some ps) same is) also

  pub lockfile-or-refused : {P : Type 0} (path : List ℕ) (ps : List PackageValue) (e : Failure) → e.kind ≢ kind.OutOfMemory → IsLockfileAt allowed path ps
      → IsLockfileRefusal allowed path e → P
  lockfile-or-refused path ps e u (text, (read, is)) (inl h) = read-or-not allowed once path text read (real kind.Io e u h).1
  lockfile-or-refused path ps e u (text, (read, is)) (inr (other, (again, h))) =
      let same = text-once allowed once path other text again read in
      none-or-some (lockfile_of text) ps (subst (λ (t : List ℕ). lockfile_of t ≡ None) same (real kind.Parse e u h).1) is

  pub lockfile-refused-once : (path : List ℕ) (e f : Failure) → e.kind ≢ kind.OutOfMemory → f.kind ≢ kind.OutOfMemory → IsLockfileRefusal allowed path e
      → IsLockfileRefusal allowed path f → e.kind ≡ f.kind
  lockfile-refused-once path e f u v (inl h) (inl k) = (real kind.Io e u h).0 ∙ sym (real kind.Io f v k).0
  lockfile-refused-once path e f u v (inl h) (inr (text, (read, k))) = read-or-not allowed once path text read (real kind.Io e u h).1
  lockfile-refused-once path e f u v (inr (text, (read, h))) (inl k) = read-or-not allowed once path text read (real kind.Io f v k).1
  lockfile-refused-once path e f u v (inr (text, (read, h))) (inr (other, (again, k))) = (real kind.Parse e u h).0 ∙ sym (real kind.Parse f v k).0

  baseline-once : (path : Option (List ℕ)) (a b : Option (List PackageValue)) → IsBaselineAt allowed path a → IsBaselineAt allowed path b → a ≡ b
  baseline-once None a b h k = h ∙ sym k
  baseline-once (Some path) a b (ps, (at, is)) (qs, (there, also)) = is ∙ (ap Some (lockfile-once path ps qs at there) ∙ sym also)

  baseline-or-refused : {P : Type 0} (path : Option (List ℕ)) (a : Option (List PackageValue)) (e : Failure) → e.kind ≢ kind.OutOfMemory
      → IsBaselineAt allowed path a → IsBaselineRefusal allowed path e → P
  baseline-or-refused None a e u h k = absurd k
  baseline-or-refused (Some path) a e u (ps, (at, is)) k = lockfile-or-refused path ps e u at k

  baseline-refused-once : (path : Option (List ℕ)) (e f : Failure) → e.kind ≢ kind.OutOfMemory → f.kind ≢ kind.OutOfMemory
      → IsBaselineRefusal allowed path e → IsBaselineRefusal allowed path f → e.kind ≡ f.kind
  baseline-refused-once None e f u v h k = absurd h
  baseline-refused-once (Some path) e f u v h k = lockfile-refused-once path e f u v h k

  -- ---- indexes

  index-once : (index : Option (List ℕ)) (ps : List PackageValue) (y z : Option YankedPackages) → IsYankedAt allowed index ps y → IsYankedAt allowed index ps z
      → y ≡ z
  index-once None ps y z h k = h ∙ sym k
  index-once (Some index) ps y z (one, (h, is)) (other, (k, also)) = is ∙ (ap Some (yanked-once allowed once index ps one other h k) ∙ sym also)

  index-or-refused : {P : Type 0} (index : Option (List ℕ)) (ps : List PackageValue) (y : Option YankedPackages) (e : Failure) → e.kind ≢ kind.OutOfMemory
      → IsYankedAt allowed index ps y → IsIndexRefusal allowed index ps e → P
  index-or-refused None ps y e u h k = absurd k
  index-or-refused (Some index) ps y e u (one, (h, is)) k = not-memory e u (yanked-or-refused allowed once index ps one e h k)

  index-refused-once : (index : Option (List ℕ)) (ps : List PackageValue) (e f : Failure) → e.kind ≢ kind.OutOfMemory → f.kind ≢ kind.OutOfMemory
      → IsIndexRefusal allowed index ps e → IsIndexRefusal allowed index ps f → e.kind ≡ f.kind
  index-refused-once None ps e f u v h k = absurd h
  index-refused-once (Some index) ps e f u v h k = kinds-of e f u v (yanked-refused-once allowed once index ps e f h k)

  -- the packages of the same lockfile
  index-of-same : (index : Option (List ℕ)) (path : List ℕ) (l m : LockedValue) (y : Option YankedPackages) → IsLockedAt allowed path l
      → IsLockedAt allowed path m → IsYankedAt allowed index l.packages y → IsYankedAt allowed index m.packages y
  index-of-same index path l m y h k is = subst (λ (x : LockedValue). IsYankedAt allowed index x.packages y) (locked-once path l m h k) is

  refused-of-same : (index : Option (List ℕ)) (path : List ℕ) (l m : LockedValue) (e : Failure) → IsLockedAt allowed path l
      → IsLockedAt allowed path m → IsIndexRefusal allowed index l.packages e → IsIndexRefusal allowed index m.packages e
  refused-of-same index path l m e h k is = subst (λ (x : LockedValue). IsIndexRefusal allowed index x.packages e) (locked-once path l m h k) is

  -- ---- all files

  pub loaded-once : (at : Places) (l m : LoadedValue) → AreLoadedAt allowed at l → AreLoadedAt allowed at m → l ≡ m
  loaded-once at l m h k =
      let locked = locked-once at.lock l.locked m.locked h.locked k.locked in
      let baseline = baseline-once at.baseline l.baseline m.baseline h.baseline k.baseline in
      let index = index-of-same at.index at.lock l.locked m.locked l.yanked h.locked k.locked h.yanked in
      let yanked = index-once at.index m.locked.packages l.yanked m.yanked index k.yanked in
      λ i. record { locked = locked i; baseline = baseline i; yanked = yanked i }

  pub loaded-or-refused : {P : Type 0} (at : Places) (l : LoadedValue) (e : Failure) → e.kind ≢ kind.OutOfMemory → AreLoadedAt allowed at l
      → IsLoadRefusal allowed at e → P
  loaded-or-refused at l e u h (unlocked k) = locked-or-refused at.lock l.locked e u h.locked k
  loaded-or-refused at l e u h (unbased m locked k) = baseline-or-refused at.baseline l.baseline e u h.baseline k
  loaded-or-refused at l e u h (unindexed m ps locked baseline k) =
      index-or-refused at.index l.locked.packages l.yanked e u h.yanked (refused-of-same at.index at.lock m l.locked e locked h.locked k)

  pub load-refused-once : (at : Places) (e f : Failure) → e.kind ≢ kind.OutOfMemory → f.kind ≢ kind.OutOfMemory
      → IsLoadRefusal allowed at e → IsLoadRefusal allowed at f → e.kind ≡ f.kind
  load-refused-once at e f u v (unlocked h) (unlocked k) = lockfile-refused-once at.lock e f u v h k
  load-refused-once at e f u v (unlocked h) (unbased m locked k) = locked-or-refused at.lock m e u locked h
  load-refused-once at e f u v (unlocked h) (unindexed m ps locked baseline k) = locked-or-refused at.lock m e u locked h
  load-refused-once at e f u v (unbased l locked h) (unlocked k) = locked-or-refused at.lock l f v locked k
  load-refused-once at e f u v (unbased l locked h) (unbased m again k) = baseline-refused-once at.baseline e f u v h k
  load-refused-once at e f u v (unbased l locked h) (unindexed m ps again baseline k) = baseline-or-refused at.baseline ps e u baseline h
  load-refused-once at e f u v (unindexed l ps locked baseline h) (unlocked k) = locked-or-refused at.lock l f v locked k
  load-refused-once at e f u v (unindexed l ps locked baseline h) (unbased m again k) = baseline-or-refused at.baseline ps f v baseline k
  load-refused-once at e f u v (unindexed l ps locked baseline h) (unindexed m qs again also k) =
      index-refused-once at.index m.packages e f u v (refused-of-same at.index at.lock l m e locked again h) k
