-- How parts of several steps go on: each is under way, or leaves what its operation does.
use Rattle.inode_parts.proofs.Vocabulary.{◌≡◌, ℕ, List, [], Option, Some, None, refl, sym, ◌∙◌, subst, Hand, AtNothing, Query, InodeType, Name, Version, answer_to, Heard, ClaimAmid, ClearAmid, EmptyAmid, EnterAmid, LockFileAmid, LockOpenAmid, StatAmid, ReadFileAmid, WriteFileAmid, FillAmid, FreeAmid, RelockAmid, StoreAmid, TakeAmid, Having, Leaves, having, StaysOrLeaves, GoesOrLeaves, UnderWay, ClaimPart, ClearPart, EmptyPart, EnterPart, FillPart, FreePart, LockFilePart, LockOpenPart, Notes, InodePart, ReadFilePart, RelockPart, StatFilePart, StorePart, TakePart, WriteFilePart}
use Rattle.inode_machine.specs.World as above
use Rattle.inode_parts.specs.declared.part.InodePart.TheVariants as part

-- it began with what was learned then, and so it goes on
went : (v : Version) (path : List ℕ) (op : above.Op) (start : Having) (Amid : Hand → Type 0) (q : InodePart) (m m2 : Notes) (h : Hand) (o : Option Heard) → m ≡ start.notes
    → ((Amid h × (m2 ≡ start.notes)) → UnderWay v path op start q (having h m2)) → StaysOrLeaves v Amid path op o (having start.hand m) (having h m2) → GoesOrLeaves v path op start o q (having h m2)
went v path op start Amid q m m2 h None e on stays = on (stays.0, stays.1 ∙ e)
went v path op start Amid q m m2 h (Some x) e on leaves = subst (λ (m : Notes). Leaves v path op (answer_to [] op x) (having start.hand m) (having h m2)) e leaves

module _ (v : Version) (path : List ℕ) (start : Having) (before h : Hand) (m m2 : Notes) (o : Option Heard) where
  abbrev Goes : InodePart → InodePart → Type 0
  Goes q r = (op : above.Op) → UnderWay v path op start q (having before m) → GoesOrLeaves v path op start o r (having h m2)

  pub stores : (p r : StorePart) → ((n count : ℕ) → StoreAmid n start.hand p before → StaysOrLeaves v (StoreAmid n start.hand r) path (above.Store n count) o (having start.hand m) (having h m2)) → Goes (part.Store p) (part.Store r)
  stores p r on (above.Store n count) under = went v path (above.Store n count) start (StoreAmid n start.hand r) (part.Store r) m m2 h o under.1 (λ stays. stays) (on n count under.0)
  stores p r on op under = absurd under.0

  pub empties : (p r : EmptyPart) → ((n : ℕ) → EmptyAmid n start.hand p before → StaysOrLeaves v (EmptyAmid n start.hand r) path (above.Empty n) o (having start.hand m) (having h m2)) → Goes (part.Empty p) (part.Empty r)
  empties p r on (above.Empty n) under = went v path (above.Empty n) start (EmptyAmid n start.hand r) (part.Empty r) m m2 h o under.1 (λ stays. stays) (on n under.0)
  empties p r on op under = absurd under.0

  pub enters : (p r : EnterPart) → ((n child : ℕ) (e : Name) → EnterAmid n start.hand p before → StaysOrLeaves v (EnterAmid n start.hand r) path (above.Enter n e child) o (having start.hand m) (having h m2)) → Goes (part.Enter p) (part.Enter r)
  enters p r on (above.Enter n e child) under = went v path (above.Enter n e child) start (EnterAmid n start.hand r) (part.Enter r) m m2 h o under.1 (λ stays. stays) (on n child e under.0)
  enters p r on op under = absurd under.0

  pub clears : (p r : ClearPart) → ((n : ℕ) (e : Name) → ClearAmid n start.hand p before → StaysOrLeaves v (ClearAmid n start.hand r) path (above.Clear n e) o (having start.hand m) (having h m2)) → Goes (part.Clear p) (part.Clear r)
  clears p r on (above.Clear n e) under = went v path (above.Clear n e) start (ClearAmid n start.hand r) (part.Clear r) m m2 h o under.1 (λ stays. stays) (on n e under.0)
  clears p r on op under = absurd under.0

  pub fills : (p r : FillPart) → ((n d : ℕ) → FillAmid n start.hand p before → StaysOrLeaves v (FillAmid n start.hand r) path (above.Fill n d) o (having start.hand m) (having h m2)) → Goes (part.Fill p) (part.Fill r)
  fills p r on (above.Fill n d) under = went v path (above.Fill n d) start (FillAmid n start.hand r) (part.Fill r) m m2 h o under.1 (λ stays. stays) (on n d under.0)
  fills p r on op under = absurd under.0

  pub frees : (p r : FreePart) → ((n : ℕ) → FreeAmid n start.hand p before → StaysOrLeaves v (FreeAmid n start.hand r) path (above.Free n) o (having start.hand m) (having h m2)) → Goes (part.Free p) (part.Free r)
  frees p r on (above.Free n) under = went v path (above.Free n) start (FreeAmid n start.hand r) (part.Free r) m m2 h o under.1 (λ stays. stays) (on n under.0)
  frees p r on op under = absurd under.0

  pub claims : (p r : ClaimPart) → ((inode_type : InodeType) → ClaimAmid start.hand p before → StaysOrLeaves v (ClaimAmid start.hand r) path (above.Claim inode_type) o (having start.hand m) (having h m2)) → Goes (part.Claim p) (part.Claim r)
  claims p r on (above.Claim inode_type) under = went v path (above.Claim inode_type) start (ClaimAmid start.hand r) (part.Claim r) m m2 h o under.1 (λ stays. stays) (on inode_type under.0)
  claims p r on op under = absurd under.0

  pub lock_opens : (p r : LockOpenPart) → ((fd n : ℕ) → LockOpenAmid fd start.hand p before → StaysOrLeaves v (LockOpenAmid fd start.hand r) path (above.LockOpen fd n) o (having start.hand m) (having h m2)) → Goes (part.LockOpen p) (part.LockOpen r)
  lock_opens p r on (above.LockOpen fd n) under = went v path (above.LockOpen fd n) start (LockOpenAmid fd start.hand r) (part.LockOpen r) m m2 h o under.1 (λ stays. stays) (on fd n under.0)
  lock_opens p r on op under = absurd under.0

  pub lock_files : (p r : LockFilePart) → ((fd : ℕ) → LockFileAmid fd start.hand p before → StaysOrLeaves v (LockFileAmid fd start.hand r) path (above.LockFile fd) o (having start.hand m) (having h m2)) → Goes (part.LockFile p) (part.LockFile r)
  lock_files p r on (above.LockFile fd) under = went v path (above.LockFile fd) start (LockFileAmid fd start.hand r) (part.LockFile r) m m2 h o under.1 (λ stays. stays) (on fd under.0)
  lock_files p r on op under = absurd under.0

  pub stats : (p r : StatFilePart) → ((fd : ℕ) → StatAmid start.hand p before → StaysOrLeaves v (StatAmid start.hand r) path (above.StatFile fd) o (having start.hand m) (having h m2)) → Goes (part.StatFile p) (part.StatFile r)
  stats p r on (above.StatFile fd) under = went v path (above.StatFile fd) start (StatAmid start.hand r) (part.StatFile r) m m2 h o under.1 (λ stays. stays) (on fd under.0)
  stats p r on op under = absurd under.0

  pub relocks : (p r : RelockPart) → ((n : ℕ) → RelockAmid n start.hand p before → StaysOrLeaves v (RelockAmid n start.hand r) path (above.Take n AtNothing) o (having start.hand m) (having h m2)) → Goes (part.Relock p) (part.Relock r)
  relocks p r on (above.Take n looking) under =
      subst (λ (q : Query). GoesOrLeaves v path (above.Take n q) start o (part.Relock r) (having h m2)) (sym under.0.0)
      (went v path (above.Take n AtNothing) start (RelockAmid n start.hand r) (part.Relock r) m m2 h o under.1 (λ stays. ((refl, stays.0), stays.1)) (on n under.0.1))
  relocks p r on op under = absurd under.0

  pub takes : (p r : TakePart) → ((n : ℕ) (looking : Query) → TakeAmid v path n looking start.hand p before → StaysOrLeaves v (TakeAmid v path n looking start.hand r) path (above.Take n looking) o (having start.hand m) (having h m2)) → Goes (part.Take p) (part.Take r)
  takes p r on (above.Take n looking) under = went v path (above.Take n looking) start (TakeAmid v path n looking start.hand r) (part.Take r) m m2 h o under.1 (λ stays. stays) (on n looking under.0)
  takes p r on op under = absurd under.0

  pub reads : (p r : ReadFilePart) → ((fd n offset count : ℕ) → ReadFileAmid n start.hand p before → StaysOrLeaves v (ReadFileAmid n start.hand r) path (above.ReadFile fd n offset count) o (having start.hand m) (having h m2)) → Goes (part.ReadFile p) (part.ReadFile r)
  reads p r on (above.ReadFile fd n offset count) under = went v path (above.ReadFile fd n offset count) start (ReadFileAmid n start.hand r) (part.ReadFile r) m m2 h o under.1 (λ stays. stays) (on fd n offset count under.0)
  reads p r on op under = absurd under.0

  pub writes : (p r : WriteFilePart) → ((fd n offset : ℕ) (bytes : List ℕ) → WriteFileAmid n start.hand p before → StaysOrLeaves v (WriteFileAmid n start.hand r) path (above.WriteFile fd n offset bytes) o (having start.hand m) (having h m2)) → Goes (part.WriteFile p) (part.WriteFile r)
  writes p r on (above.WriteFile fd n offset bytes) under = went v path (above.WriteFile fd n offset bytes) start (WriteFileAmid n start.hand r) (part.WriteFile r) m m2 h o under.1 (λ stays. stays) (on fd n offset bytes under.0)
  writes p r on op under = absurd under.0
