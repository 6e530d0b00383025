-- Each operation of one step on the tables acts at it.
use Rattle.inodes_on_blocks.proofs.Vocabulary.{◌≡◌, ◌≢◌, inl, inr, ℕ, ◌<◌, Bool, true, false, Option, Some, None, refl, sym, ◌∙◌, ap, subst, IsSome, none-some, same_Some, Dinode, Node, put, hart_count, same_or, put_same, put_other, HoldsAt, Ran, Laws, Both, TablesState, unlock_inode, settle_inode, UnlockInode, SetDirectory, unlocked, ours_none, ours_some, loaded, World, log_of, tables_of, disk_of, inode_in, Shows, OffsetsShow, on_blocks, Same, Had, Apart, Has, Emptied, Carry, record_had, IsLoaded, InHand, Base, Labels, labelled, Keeps, give, ActsOnceAt, Loaded, IsIndexOf, Version, Super}
use Rattle.fs_machine.specs.Steps as steps
use Rattle.fs_machine.specs.Premises as premises
use Rattle.inode_machine.specs.World as above
use Rattle.inode_machine.specs.Exec as above_exec
use Rattle.inodes_on_blocks.specs.ShownTables as tables
use Rattle.inodes_on_blocks.proofs.Basics.{part_same, locks_are_given, directories_are_settled, old_node, locked_old, tables_left, fewer_owed, Came, one_step, with_tables, shows_then, base_then, OpenStays, open_alike}
use Rattle.inodes_on_blocks.specs.Handlers.{settle}

-- what is loaded of an inode in hand is as it is seen
loaded_seen : (version : Version) (o : Had) (n : Option Node) (d : Dinode) (e : Loaded) → IsLoaded version o n d → record_had o ≡ Some e → e.inode ≡ d
loaded_seen version Apart n d e is q = absurd is
loaded_seen version (Has f l) n d e is q = ap (λ (x : Loaded). x.inode) (same_Some e f (sym q)) ∙ is.0
loaded_seen version Emptied n d e is q = absurd (none-some e q)

-- and its index is right
indexed_had : (version : Version) (o : Had) (n : Option Node) (d : Dinode) (e : Loaded) → IsLoaded version o n d → record_had o ≡ Some e → IsIndexOf version e.index n
indexed_had version Apart n d e is q = absurd is
indexed_had version (Has f l) n d e is q = subst (λ (x : Loaded). IsIndexOf version x.index n) (same_Some f e q) is.3
indexed_had version Emptied n d e is q = absurd (none-some e q)

some_loaded : (version : Version) (o : Had) (n : Option Node) (d : Dinode) → IsLoaded version o n d → above_exec.is_dead n ≡ true → IsSome (record_had o)
some_loaded version Apart n d is dead = absurd is
some_loaded version (Has f l) n d is dead = refl
some_loaded version Emptied n d is dead = absurd (let q : false ≡ true = sym (ap above_exec.is_dead is.0) ∙ dead in cc)

untyped : (version : Version) (o : Had) (n : Option Node) (d : Dinode) → IsLoaded version o n d → n ≡ None → record_had o ≡ None
untyped version Apart n d is e = refl
untyped version (Has f l) n d is e = absurd (is.1 e)
untyped version Emptied n d is e = refl

module _ (sizes : Super) (l : Labels) (laws : Laws (labelled sizes.version l)) (keeps : Keeps l) (h : ℕ) (lt : h < hart_count) where
  abbrev W : Type 0
  W = Both World above.World

  -- ---- a lock given back

  -- the world above then
  pub record GivesBack (n : ℕ) (g u : above.World) : Type 0 where
    pub disk : u.disk ≡ g.disk
    pub lock : u.lock ≡ put g.lock n None
    pub refs : u.refs ≡ g.refs
    pub keeper : (i : ℕ) → i ≢ n → u.keeper i ≡ g.keeper i
    pub size : u.all.ninodes ≡ g.all.ninodes
    pub joined : (j : ℕ) → (u.desks j).joined ≡ (g.desks j).joined
    pub lender : (u.desks h).lender ≡ (g.desks h).lender
    pub opens : (i : ℕ) → i ≢ n → OpenStays h i g u
    pub offsets : OffsetsShow g.files → OffsetsShow u.files

  -- by which the machine goes on, whichever operation it was
  module _ (n : ℕ) (v : World) (g : above.World) (c : Carry) (t : TablesState) (u : above.World) (shows : Shows v g) (base : Base h v g c) (mine : g.lock n ≡ Some h) (free : (g.desks h).lender ≡ None)
      (after : tables.Shows t u (put (loaded (tables_of v)) n (record_had (c n)))) (s : GivesBack n g u) where
    abbrev load : ℕ → Option Loaded
    load = loaded (tables_of v)

    hand : InHand h n (c n) v g
    hand = base.inodes n (sym (shows.tables.places.holders n) ∙ mine)

    old : v.new n ≡ None
    old = locked_old v g shows n h mine

    freed : (i : ℕ) → i ≡ n → u.lock i ≡ None
    freed i q = (λ z. s.lock z i) ∙ ap (put g.lock n None) q ∙ put_same g.lock n None

    unfreed : (i : ℕ) → i ≢ n → u.lock i ≡ g.lock i
    unfreed i ne = (λ z. s.lock z i) ∙ put_other g.lock n None i ne

    pub given_shows : Shows (with_tables v t) u
    given_shows =
        shows_then h lt v g shows t u (put load n (record_had (c n))) after s.disk s.size s.joined
        (λ i. elim (same_or i n) [
          | inl q ↦ inr (inr (freed i q, subst (λ (z : ℕ). HoldsAt (disk_of (log_of v)) v.owner z (on_blocks v.new g.disk z)) (sym q) (subst (λ (x : Option Node). HoldsAt (disk_of (log_of v)) v.owner n x) (sym (old_node v.new g.disk n old)) hand.holds)))
          | inr ne ↦ inl (unfreed i ne)
        ])
        (λ i k e. elim (same_or i n) [
          | inl q ↦ absurd (none-some k (sym old ∙ ap v.new (sym q) ∙ e))
          | inr ne ↦ (unfreed i ne ∙ (shows.news i k e).unlocked, s.keeper i ne ∙ (shows.news i k e).kept, put_other load n (record_had (c n)) i ne ∙ (shows.news i k e).unloaded)
        ])
        (record {
          seen = λ i d e. elim (same_or i n) [
            | inl q ↦ loaded_seen (log_of v).sizes.version (c n) (g.disk n) (inode_in (log_of v) n) d hand.loaded_is (sym (ap (put load n (record_had (c n))) q ∙ put_same load n (record_had (c n))) ∙ e) ∙ ap (inode_in (log_of v)) (sym q)
            | inr ne ↦ shows.loads.seen i d (sym (put_other load n (record_had (c n)) i ne) ∙ e)
          ];
          dead = λ i some unlocked loose dead. elim (same_or i n) [
            | inl q ↦ subst IsSome (sym (ap (put load n (record_had (c n))) q ∙ put_same load n (record_had (c n)))) (some_loaded (log_of v).sizes.version (c n) (g.disk n) (inode_in (log_of v) n) hand.loaded_is ((λ z. above_exec.is_dead (sym s.disk z (sym q z))) ∙ dead))
            | inr ne ↦ subst IsSome (sym (put_other load n (record_had (c n)) i ne)) (shows.loads.dead i (subst (λ (z : ℕ). 0 < z) (λ z. s.refs z i) some) (sym (unfreed i ne) ∙ unlocked) (sym (s.keeper i ne) ∙ loose) ((λ z. above_exec.is_dead (sym s.disk z i)) ∙ dead))
          ];
          typed = λ i e. elim (same_or i n) [
            | inl q ↦ ap (put load n (record_had (c n))) q ∙ put_same load n (record_had (c n)) ∙ untyped (log_of v).sizes.version (c n) (g.disk n) (inode_in (log_of v) n) hand.loaded_is ((λ z. sym s.disk z (sym q z)) ∙ e)
            | inr ne ↦ put_other load n (record_had (c n)) i ne ∙ shows.loads.typed i ((λ z. sym s.disk z i) ∙ e)
          ];
          indexed = λ i d e. elim (same_or i n) [
            | inl q ↦ subst (IsIndexOf (log_of v).sizes.version d.index) (λ z. sym s.disk z (sym q z)) (indexed_had (log_of v).sizes.version (c n) (g.disk n) (inode_in (log_of v) n) d hand.loaded_is (sym (ap (put load n (record_had (c n))) q ∙ put_same load n (record_had (c n))) ∙ e))
            | inr ne ↦ subst (IsIndexOf (log_of v).sizes.version d.index) (λ z. sym s.disk z i) (shows.loads.indexed i d (sym (put_other load n (record_had (c n)) i ne) ∙ e))
          ];
        }) (s.offsets shows.offsets)

    pub given_same : (other : ℕ) → other ≢ h → Same other v (with_tables v t)
    given_same =
        tables_left h v t g u load (put load n (record_had (c n))) shows.tables after
        (λ i. elim (same_or i n) [
          | inl q ↦ inr (ours_some h (g.lock i) (ap g.lock q ∙ mine), ours_none h (u.lock i) (freed i q))
          | inr ne ↦ inl (unfreed i ne)
        ])

    pub given_base : Base h (with_tables v t) u (put c n Apart)
    given_base =
        base_then h lt v g shows c (put c n Apart) t u (put load n (record_had (c n))) base after (s.lender ∙ free)
        (λ i e. elim (same_or i n) [
          | inl q ↦ absurd (none-some h (sym (freed i q) ∙ e))
          | inr ne ↦
              let was : g.lock i ≡ Some h = sym (unfreed i ne) ∙ e in
              inl (was, s.keeper i ne ∙ (base.inodes i (sym (shows.tables.places.holders i) ∙ was)).keeps, (λ z. s.disk z i), put_other c n Apart i ne, s.opens i ne)
        ])

  pub given_came : (op : above.Op) (n : ℕ) (v : W) (c : Carry) (b : above.Answer op) (t : TablesState) (u : above.World) → Shows v.real v.seen → Base h v.real v.seen c → v.seen.lock n ≡ Some h → (v.seen.desks h).lender ≡ None
      → above_exec.exec sizes.version h above.Room op v.seen ≡ Ran b u → tables.Shows t u (put (loaded (tables_of v.real)) n (record_had (c n))) → GivesBack n v.seen u → Came sizes l laws keeps h op v b (with_tables v.real t) (put c n Apart)
  given_came op n v c b t u shows base mine free ran after s = record {
    then_ = u;
    ran = ran;
    free = s.lender ∙ free;
    shows = given_shows n v.real v.seen c t u shows base mine free after s;
    same = given_same n v.real v.seen c t u shows base mine free after s;
    base = given_base n v.real v.seen c t u shows base mine free after s;
  }

  pub unlocked_back : (n : ℕ) (g : above.World) (b : Bool) → GivesBack n g (unlocked n g b)
  unlocked_back n g true = record { disk = refl; lock = refl; refs = refl; keeper = λ i ne. refl; size = refl; joined = λ j. refl; lender = refl; opens = λ i ne. open_alike h i g (unlocked n g true) refl refl; offsets = λ old. old }
  unlocked_back n g false = record { disk = refl; lock = refl; refs = refl; keeper = λ i ne. put_other g.keeper n None i ne; size = refl; joined = λ j. refl; lender = refl; opens = λ i ne. open_alike h i g (unlocked n g false) refl refl; offsets = λ old. old }

  pub unlocked_shows : (t : TablesState) (n : ℕ) (g : above.World) (load : ℕ → Option Loaded) (b : Bool) → tables.Shows t (record g { lock = put g.lock n None }) load → tables.Shows t (unlocked n g b) load
  unlocked_shows t n g load true s = record { sound = s.sound; places = s.places; files = s.files; desks = s.desks; lenders = s.lenders; range = s.range }
  unlocked_shows t n g load false s = record { sound = s.sound; places = s.places; files = s.files; desks = s.desks; lenders = s.lenders; range = s.range }

  pub give_acts : (n : ℕ) (m : Unit {0} → Option above.Mark) → ActsOnceAt sizes l h (UnlockInode n) m (give n)
  unfolding steps.exec premises.May
  give_acts n m =
      one_step sizes l laws keeps h (UnlockInode n) m (λ c. steps.Unlock (record { number = n; content = record_had (c n) }) None) (λ c a. tt) (λ c a. put c n Apart) (λ v. tt)
      (λ v c shows inv base may. (
        (sym (shows.tables.places.holders n) ∙ may.1, tt),
        λ x t.
            given_came (UnlockInode n) n v c tt (unlock_inode h (record { number = n; content = record_had (c n) }) None (tables_of v.real)) (unlocked n v.seen (v.seen.alone n)) shows base may.1 may.0 refl
            (unlocked_shows _ n v.seen _ (v.seen.alone n) (locks_are_given h (record { number = n; content = record_had (c n) }) (tables_of v.real) v.seen (loaded (tables_of v.real)) shows.tables may.1))
            (unlocked_back n v.seen (v.seen.alone n)),
      ))

  -- and the inode is the directory
  settled_back : (n : ℕ) (g : above.World) (b : Bool) → GivesBack n g (above_exec.with_directory (unlocked n g b) h n)
  settled_back n g true = record { offsets = λ old. old; opens = λ i ne. open_alike h i g (above_exec.with_directory (unlocked n g true) h n) (part_same (λ d. d.fds) g.desks h (record (g.desks h) { directory = n; left = None }) h refl) refl; disk = refl; lock = refl; refs = refl; keeper = λ i ne. refl; size = refl; joined = λ j. part_same (λ d. d.joined) g.desks h (record (g.desks h) { directory = n; left = None }) j refl; lender = part_same (λ d. d.lender) g.desks h (record (g.desks h) { directory = n; left = None }) h refl }
  settled_back n g false = record { offsets = λ old. old; opens = λ i ne. open_alike h i g (above_exec.with_directory (unlocked n g false) h n) (part_same (λ d. d.fds) g.desks h (record (g.desks h) { directory = n; left = None }) h refl) refl; disk = refl; lock = refl; refs = refl; keeper = λ i ne. put_other g.keeper n None i ne; size = refl; joined = λ j. part_same (λ d. d.joined) g.desks h (record (g.desks h) { directory = n; left = None }) j refl; lender = part_same (λ d. d.lender) g.desks h (record (g.desks h) { directory = n; left = None }) h refl }

  pub settle_acts : (n : ℕ) (m : ℕ → Option above.Mark) → ActsOnceAt sizes l h (SetDirectory n) m (settle n)
  unfolding steps.exec premises.May settle_inode
  settle_acts n m =
      one_step sizes l laws keeps h (SetDirectory n) m (λ c. steps.SetDirectory (record { number = n; content = record_had (c n) })) (λ c a. a) (λ c a. put c n Apart) (λ v. tt)
      (λ v c shows inv base may.
      let both = directories_are_settled sizes.version h (record { number = n; content = record_had (c n) }) (tables_of v.real) v.seen (loaded (tables_of v.real)) shows.tables (record { below = lt; free = may.0 }) may.1.0 in (
        (lt, sym (shows.tables.places.holders n) ∙ may.1.0, fewer_owed n (tables_of v.real) v.seen (loaded (tables_of v.real)) shows.tables inv h lt may.1.1),
        λ x t.
            given_came (SetDirectory n) n v c _ _ (above_exec.with_directory (unlocked n v.seen (v.seen.alone n)) h n) shows base may.1.0 may.0 (ap (λ (d : ℕ). Ran d (above_exec.with_directory (unlocked n v.seen (v.seen.alone n)) h n)) (sym both.0)) both.1
            (settled_back n v.seen (v.seen.alone n)),
      ))
