-- What the others leave to a hart below, and what a step on the tables leaves to them.
use Rattle.inodes_on_blocks.proofs.Vocabulary.{◌≡◌, ◌≢◌, ◌⊎◌, inl, inr, ℕ, true, false, List, Option, Some, None, refl, sym, ◌∙◌, ap, subst, none-some, Dinode, Super, Version, IsData, is_free, Node, HoldsAt, IsUntouched, LowerLaws, TablesState, lock_holder, seen_of, LogPart, eq_is, eq_self, Held, is_hart, if_kept, above_own as own_of, view, Idle, Ours, not_ours, kept_is, kept_here, has_inode, World, log_of, tables_of, disk_of, inode_in, untyped, KeepsInode, commit_in, undertaken, IsThrough, Same, Kept, Had, Apart, Has, Emptied, Carry, IsKnown, IsLoaded, InHand, Base, below, Labels, labelled, Keeps, IsOpened, Loaded, IsIndexOf}
use Rattle.inodes_on_blocks.proofs.HeldFrames.{untouched}
use Rattle.inode_machine.specs.World as above
use Rattle.inode_machine.specs.Rules.{Own}
use Rattle.inodes_on_blocks.specs.ShownTables as tables
use Rattle.inodes_on_blocks.proofs.Marked.{SameCode}
use Rattle.inodes_on_blocks.proofs.News.{untyped_less}
use Rattle.inodes_on_blocks.proofs.OpenFiles.{open_alike, open_kept, open_then}

pub hart_is : (o : Option ℕ) (h : ℕ) → is_hart o h ≡ true → o ≡ Some h
hart_is None h e = absurd (let z : false ≡ true = e in cc)
hart_is (Some g) h e = ap (λ (z : ℕ). Some z) (eq_is g h e)

pub is_here : (o : Option ℕ) (h : ℕ) → o ≡ Some h → is_hart o h ≡ true
is_here o h e = ap (λ (z : Option ℕ). is_hart z h) e ∙ eq_self h

-- what is held at one end is held at the other
pub held_back : {A : Type 0} (o p : Option ℕ) (h : ℕ) (x y : A) → if_kept o h x ≡ if_kept p h y → o ≡ Some h → (p ≡ Some h) × (y ≡ x)
held_back o p h x y e is = kept_is h p y x (sym e ∙ kept_here h o x is)

-- what a hart is through with
pub through_then : (h : ℕ) (v w : World) → undertaken h w ≡ undertaken h v → IsThrough h v → IsThrough h w
through_then h v w same is = record {
  commits = λ e. is.commits (held_back w.commits v.commits h (commit_in (log_of w)) (commit_in (log_of v)) (λ z. (same z).0) e).0;
  new = λ n e. is.new n (hart_is (v.new n) h (sym (λ z. (same z).1 n) ∙ is_here (w.new n) h e));
}

-- and through with after a put of its own
pub through_put : (h : ℕ) (r w : World) (l : LogPart) → w.commits ≡ r.commits → w.new ≡ untyped l r.new → IsThrough h r → IsThrough h w
through_put h r w l same new is = record { commits = λ e. is.commits (sym same ∙ e); new = λ n e. is.new n (untyped_less l r.new n h ((λ z. sym new z n) ∙ e)) }

-- a hart that rests keeps nothing
pub keeps_none : (h i : ℕ) (g : above.World) → Idle h g → g.keeper i ≡ Some h → ⊥
keeps_none h i g idle is = none-some (view g h i) (sym (λ z. idle.inodes z i) ∙ kept_here h (g.keeper i) (view g h i) is)

-- an inode that it keeps is as it was
pub kept_open : (h i : ℕ) (had : Had) (g u : above.World) → Kept h g u → (((g.desks h).lender ≡ None → ⊥) → Idle h g) → g.keeper i ≡ Some h → IsOpened h i had g → IsOpened h i had u
kept_open h i had g u kept lent is opened = by (g.desks h).lender refl
  where
    by : (o : Option ℕ) → (g.desks h).lender ≡ o → IsOpened h i had u
    by None e = open_kept h i had g u e kept is opened
    by (Some l) e = absurd (keeps_none h i g (lent (λ z. none-some l (sym z ∙ e))) is)

pub kept_disk : (h i : ℕ) (g u : above.World) → Kept h g u → (((g.desks h).lender ≡ None → ⊥) → Idle h g) → g.keeper i ≡ Some h → (u.keeper i ≡ Some h) × (u.disk i ≡ g.disk i)
kept_disk h i g u kept lent is = by (g.desks h).lender refl
  where
    by : (o : Option ℕ) → (g.desks h).lender ≡ o → (u.keeper i ≡ Some h) × (u.disk i ≡ g.disk i)
    by None e =
        let q = has_inode h i u (own_of h g) (view g h i) (kept.same e) (kept_here h (g.keeper i) (view g h i) is) in
        (q.0, ap (λ (x : Held). x.disk) q.1)
    by (Some l) e = absurd (keeps_none h i g (lent (λ z. none-some l (sym z ∙ e))) is)

-- ---- an inode that is left as it is

-- by a step that changes no seen block
pub untouched_same : (disk : List (List ℕ)) (owner : ℕ → ℕ) (i : ℕ) → IsUntouched disk disk owner owner i
untouched_same disk owner i = record { sizes = refl; inode = refl; blocks = λ b block own. (refl, own); alone = λ b block own. own }

pub untouched_then : (old mid new : List (List ℕ)) (o p q : ℕ → ℕ) (i : ℕ) → IsUntouched old mid o p i → IsUntouched mid new p q i → IsUntouched old new o q i
untouched_then old mid new o p q i a b = record {
  sizes = b.sizes ∙ a.sizes;
  inode = b.inode ∙ a.inode;
  blocks = λ c block own.
      let x = a.blocks c block own in
      let y = b.blocks c (subst (λ (s : Super). IsData s c) (sym a.sizes) block) x.1 in
      (y.0 ∙ x.0, y.1);
  alone = λ c block own. a.alone c block (b.alone c (subst (λ (s : Super). IsData s c) (sym a.sizes) block) own);
}

-- if the seen disk is as it was, and so are the blocks' owners
pub kept_alike : (h i : ℕ) (v w : World) → lock_holder i (tables_of w) ≡ Some h → disk_of (log_of w) ≡ disk_of (log_of v) → w.owner ≡ v.owner → KeepsInode h i v w
kept_alike h i v w lock disk owner = record {
  lock = lock;
  untouched =
      subst (λ (d : List (List ℕ)). IsUntouched (disk_of (log_of v)) d v.owner w.owner i) (sym disk)
      (subst (λ (o : ℕ → ℕ). IsUntouched (disk_of (log_of v)) (disk_of (log_of v)) v.owner o i) (sym owner) (untouched_same (disk_of (log_of v)) v.owner i));
}

-- ---- what a hart has in hand

still_loaded : (version : Version) (o : Had) (m n : Option Node) (d e : Dinode) → n ≡ m → e ≡ d → IsLoaded version o m d → IsLoaded version o n e
still_loaded version Apart m n d e q p x = x
still_loaded version (Has f l) m n d e q p x = (x.0 ∙ sym p, λ z. x.1 (sym q ∙ z), subst (IsKnown l) (sym q) x.2, subst (IsIndexOf version f.index) (sym q) x.3)
still_loaded version Emptied m n d e q p x = (q ∙ x.0, ap is_free p ∙ x.1)

-- of each inode whose lock it has
abbrev pub AllInHand : ℕ → Carry → World → above.World → Type 0
AllInHand h c r g = (i : ℕ) → lock_holder i (tables_of r) ≡ Some h → InHand h i (c i) r g

pub hand_then : (h i : ℕ) (o : Had) (v w : World) (g u : above.World) → (log_of w).sizes ≡ (log_of v).sizes → KeepsInode h i v w → Kept h g u → (((g.desks h).lender ≡ None → ⊥) → Idle h g) → InHand h i o v g → InHand h i o w u
hand_then h i o v w g u sized k kept lent was =
    let now = kept_disk h i g u kept lent was.keeps in
    record {
      keeps = now.0;
      loaded_is =
          subst (λ (s : Super). IsLoaded s.version o (u.disk i) (inode_in (log_of w) i)) (sym sized)
          (still_loaded (log_of v).sizes.version o (g.disk i) (u.disk i) (inode_in (log_of v) i) (inode_in (log_of w) i) now.1 k.untouched.inode was.loaded_is);
      holds =
          subst (λ (n : Option Node). HoldsAt (disk_of (log_of w)) w.owner i n) (sym now.1)
          (untouched (disk_of (log_of v)) (disk_of (log_of w)) v.owner w.owner i (g.disk i) k.untouched was.holds);
      opened = kept_open h i o g u kept lent was.keeps was.opened;
    }

pub in_hand_then : (h : ℕ) (c : Carry) (v w : World) (g u : above.World) → (log_of w).sizes ≡ (log_of v).sizes → ((i : ℕ) → lock_holder i (tables_of v) ≡ Some h → KeepsInode h i v w)
    → ((i : ℕ) → lock_holder i (tables_of w) ≡ Some h → lock_holder i (tables_of v) ≡ Some h) → Kept h g u → (((g.desks h).lender ≡ None → ⊥) → Idle h g) → AllInHand h c v g → AllInHand h c w u
in_hand_then h c v w g u sized inodes no_more kept lent all i e =
    let before = no_more i e in hand_then h i (c i) v w g u sized (inodes i before) kept lent (all i before)

pub lent_then : (h : ℕ) (g u : above.World) → Kept h g u → (((g.desks h).lender ≡ None → ⊥) → Idle h g) → ((u.desks h).lender ≡ None → ⊥) → Idle h u
lent_then h g u kept lent some = by (g.desks h).lender refl
  where
    by : (o : Option ℕ) → (g.desks h).lender ≡ o → Idle h u
    by None e = absurd (some (ap (λ (o : Own). o.desk.lender) (kept.same e) ∙ e))
    by (Some l) e = kept.rests (lent (λ z. none-some l (sym z ∙ e)))

pub below_laws : (sizes : Super) (l : Labels) → Keeps l → LowerLaws (labelled sizes.version l) (below sizes)
below_laws sizes l keeps =
    record {
      same = λ h w. record { inodes = λ i e. record { lock = e; untouched = untouched_same (disk_of (log_of w)) w.owner i }; no_more = λ i e. e; buffers = λ b. refl; held = refl; member = refl; group = λ b k m e. e; sizes = refl; taken = λ b. refl; begun = refl };
      trans = λ h u v w p q. record {
        inodes = λ i e. let a = p.inodes i e in let b = q.inodes i a.lock in record { lock = b.lock; untouched = untouched_then (disk_of (log_of u)) (disk_of (log_of v)) (disk_of (log_of w)) u.owner v.owner w.owner i a.untouched b.untouched };
        no_more = λ i e. p.no_more i (q.no_more i e);
        buffers = λ b. q.buffers b ∙ p.buffers b;
        held = q.held ∙ p.held;
        member = q.member ∙ p.member;
        group = λ b k m e. q.group b k (p.member ∙ m) (p.group b k m e);
        sizes = q.sizes ∙ p.sizes;
        taken = λ b. q.taken b ∙ p.taken b;
        begun = q.begun ∙ p.begun;
      };
      kept = keeps;
      base = λ h v w g u c same kept stands. let b = stands.0 in (
        record {
          free = same.held ∙ b.free;
          taken = λ n e. b.taken n (held_back (w.taken n) (v.taken n) h (seen_of (log_of w) n) (seen_of (log_of v) n) (same.taken n) e).0;
          through = through_then h v w same.begun b.through;
          inodes = in_hand_then h c v w g u same.sizes same.inodes same.no_more kept b.lent b.inodes;
          lent = λ some. lent_then h g u kept b.lent some;
        },
        same.sizes ∙ stands.1,
      );
      idle = λ h w g c inv idle stands. let b = stands.0 in (record { free = b.free; taken = b.taken; through = b.through; inodes = λ i e. absurd (keeps_none h i g idle (b.inodes i e).keeps); lent = b.lent }, stands.1);
    }

-- ---- a step on the tables

-- another hart has its locks still, if only this hart's changed
pub tables_left : (h : ℕ) (v : World) (t : TablesState) (g u : above.World) (load load_then : ℕ → Option Loaded) → tables.Shows (tables_of v) g load → tables.Shows t u load_then
    → ((i : ℕ) → (u.lock i ≡ g.lock i) ⊎ (Ours h (g.lock i) × Ours h (u.lock i))) → (other : ℕ) → other ≢ h → Same other v (record v { state = record (v.state) { tables = t } })
tables_left h v t g u load load_then shows after change other ne =
    record {
      inodes = λ i e. record { lock = forth i (change i) e; untouched = untouched_same (disk_of (log_of v)) v.owner i };
      no_more = λ i e. back i (change i) e;
      buffers = λ b. refl;
      held = refl;
      member = refl;
      group = λ b k m e. e;
      sizes = refl;
      taken = λ b. refl;
      begun = refl;
    }
  where
    forth : (i : ℕ) → (u.lock i ≡ g.lock i) ⊎ (Ours h (g.lock i) × Ours h (u.lock i)) → lock_holder i (tables_of v) ≡ Some other → lock_holder i t ≡ Some other
    forth i (inl same) e = sym (after.places.holders i) ∙ same ∙ shows.places.holders i ∙ e
    forth i (inr ours) e = not_ours h other (g.lock i) ours.0 ne (shows.places.holders i ∙ e)

    back : (i : ℕ) → (u.lock i ≡ g.lock i) ⊎ (Ours h (g.lock i) × Ours h (u.lock i)) → lock_holder i t ≡ Some other → lock_holder i (tables_of v) ≡ Some other
    back i (inl same) e = sym (shows.places.holders i) ∙ sym same ∙ after.places.holders i ∙ e
    back i (inr ours) e = not_ours h other (u.lock i) ours.1 ne (after.places.holders i ∙ e)

-- what a hart has is the same in a world above that differs for the proof alone
pub hands_marked : (h : ℕ) (r : World) (g u : above.World) (c : Carry) → SameCode g u → AllInHand h c r g → AllInHand h c r u
hands_marked h r g u c s all i e =
    let x = all i e in
    record {
      keeps = (λ z. s.keeper z i) ∙ x.keeps;
      loaded_is = subst (λ (n : Option Node). IsLoaded (log_of r).sizes.version (c i) n (inode_in (log_of r) i)) (λ z. sym s.disk z i) x.loaded_is;
      holds = subst (λ (n : Option Node). HoldsAt (disk_of (log_of r)) r.owner i n) (λ z. sym s.disk z i) x.holds;
      opened = open_then h i (c i) g u (open_alike h i g u (s.desks h).fds s.files) x.opened;
    }

pub base_marked : (h : ℕ) (r : World) (g u : above.World) (c : Carry) → SameCode g u → (g.desks h).lender ≡ None → Base h r g c → Base h r u c
base_marked h r g u c s free b = record {
  free = b.free;
  taken = b.taken;
  through = b.through;
  inodes = hands_marked h r g u c s b.inodes;
  lent = λ some. absurd (some ((s.desks h).lender ∙ free));
}
