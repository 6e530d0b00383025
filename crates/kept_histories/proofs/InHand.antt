-- What a hart has in hand stays so: while the others step, and by its own operations. Nobody keeps such an inode alone.
use Rattle.std.specs.Prelude.{◌≡◌, ◌≢◌, ◌<◌, ◌≤◌, ℕ, ◌+◌, ◌-◌, ◌==◌, Bool, true, false, [], Option, Some, None}
use Rattle.inode_machine.proofs.Vocabulary.{Node, folder, live_directory, refl, sym, ◌∙◌, ap, subst, inl, inr, arith, and_true, eq_is, eq_self, eq_not, same_or, put, put_same, put_other, hart_count, root, is_live, ExecResult, Waits, Ran, Stops, Tree, look_same, look_live, live_is, folder_dead}
use Rattle.inode_machine.proofs.Frame.{has_inode, has_none, kept_here, two_refs, one_refs}
use Rattle.inode_machine.specs.Exec.{changed_record, serving, counted_down, is_dead, with_count, counted_up, has_place, is_last, lock_if, locked, reserved, start_if, start_number, unlocked, up_if, walk_down_if, with_joined}
use Rattle.inode_machine.specs.Inodes.{type_of}
use Rattle.inode_machine.specs.Inodes.{seen_in}
use Rattle.inode_machine.specs.Vocabulary.{Own as OwnMove, lowest}
use Rattle.inode_machine.specs.Marks.{Made, clear, mended, new_id, spoiled, with_left, with_made, with_noted, with_opened}
use Rattle.inode_machine.specs.Marks.{go, made_by, marked, with_mark}
use Rattle.inode_machine.specs.Rules.{Found, Held, Idle, Inv, Own, Others, own_of, view}
use Rattle.inode_machine.specs.Theory.{Refusal, begin_call, begin_if, serving_world}
use Rattle.inode_machine.proofs.Starts.{begun_same, inherit_begins, start_is}
use Rattle.atomic_programs.specs.Calls.{Began, Begins}
use Rattle.plain_tree.specs.declared.call.Call.{Call}
use Rattle.plain_tree.specs.declared.call.Call.TheVariants as calls
use Rattle.inode_machine.specs.World.{Desk, Mark, Mine, Op, Answer, Outside, World}
use Rattle.inode_machine.specs.World.Mark.{Fills, Frees, Makes, Mends, Orphans, Spoils}
use Rattle.inode_machine.specs.World.Op.{Take, UnlockInode, UpStart, Up, WalkDown, Store, Join}
use Rattle.kept_histories.proofs.Hands.{AsksSo, Hands, after, counted, down, one, started, uncounted, up}
use Rattle.image_versions.specs.declared.version.Version.{Version}

-- Hart h has this in hand, besides its current directory. It has counted each inode up at least as often as this
-- says, and nobody keeps one alone. What it counted up last has a name in a directory that it keeps.
pub record HasInHand (h : ℕ) (g : Hands) (w : World) : Type 0 where
  pub hart : h < hart_count
  pub free : (w.desks h).lender ≡ None
  pub has : (n : ℕ) → one ((w.desks h).directory == n) + g.has n ≤ (w.harts h).refs n
  pub shared : (n : ℕ) → 1 ≤ one ((w.desks h).directory == n) + g.has n → w.alone n ≡ false
  pub stands : (n : ℕ) → g.last ≡ Some n → Found w.keeper w.all.nodes h n

abbrev pub Holds : ℕ → Option Hands → World → Type 0
Holds h None w = Unit {0}
Holds h (Some g) w = HasInHand h g w

-- ---- while the others step

-- who refers to an inode, and doesn't keep it alone: nobody does
pub lone : (h n : ℕ) (w : World) → Inv w → h < hart_count → 1 ≤ (w.harts h).refs n → (w.keeper n ≡ Some h → w.alone n ≡ false) → w.alone n ≡ false
lone h n w inv lt some mine = by (w.alone n) refl
  where
    by : (b : Bool) → w.alone n ≡ b → w.alone n ≡ false
    by false e = e
    by true e =
        let a = inv.alone n e in
        elim (same_or a.hart h) [
          | inl q ↦ mine (a.kept ∙ ap (λ (z : ℕ). Some z) q)
          | inr ne ↦ absurd (let two = two_refs w a.hart h n inv (inv.kept n a.hart a.kept).0 lt ne in let c = a.counts in omega (arith, two, c, some))
        ]

others_leave : (h : ℕ) (g : Hands) (v w : World) → Inv w → Others h v [] w → HasInHand h g v → HasInHand h g w
others_leave h g v w inv o was =
    record {
      hart = was.hart;
      free = ap (λ (d : Desk). d.lender) desk ∙ was.free;
      has = has;
      shared = λ n low. lone h n w inv was.hart (let a = has n in omega (arith, a, low)) (λ keeps. by n low keeps);
      stands = λ n e.
          let f = was.stands n e in
          let k = kept f.directory f.keeps in
          record { directory = f.directory; name = f.name; keeps = k.0; finds = look_same v.all.nodes w.all.nodes f.directory f.name (ap (λ x. x.node) k.1) ∙ f.finds };
    }
  where
    same : own_of h w ≡ own_of h v
    same = o.same was.free

    desk : w.desks h ≡ v.desks h
    desk = ap (λ (z : Own). z.desk) same

    mine : w.harts h ≡ v.harts h
    mine = ap (λ (z : Own). z.mine) same

    -- what it kept it keeps as it was
    kept : (n : ℕ) → v.keeper n ≡ Some h → (w.keeper n ≡ Some h) × (view w h n ≡ view v h n)
    kept n keeps = has_inode h n w (own_of h v) (view v h n) same (kept_here h (v.keeper n) (view v h n) keeps)

    back : (n : ℕ) → w.keeper n ≡ Some h → (v.keeper n ≡ Some h) × (view v h n ≡ view w h n)
    back n keeps = has_inode h n v (own_of h w) (view w h n) (sym same) (kept_here h (w.keeper n) (view w h n) keeps)

    has : (n : ℕ) → one ((w.desks h).directory == n) + g.has n ≤ (w.harts h).refs n
    has n = subst (λ (d : Desk). one (d.directory == n) + g.has n ≤ (w.harts h).refs n) (sym desk) (subst (λ (m : Mine). one ((v.desks h).directory == n) + g.has n ≤ m.refs n) (sym mine) (was.has n))

    by : (n : ℕ) → 1 ≤ one ((w.desks h).directory == n) + g.has n → w.keeper n ≡ Some h → w.alone n ≡ false
    by n low keeps = sym (ap (λ x. x.alone) (back n keeps).1) ∙ was.shared n (subst (λ (d : Desk). 1 ≤ one (d.directory == n) + g.has n) desk low)

pub others_hold : (h : ℕ) (g : Option Hands) (v w : World) → Inv w → Others h v [] w → Holds h g v → Holds h g w
others_hold h None v w inv o was = tt
others_hold h (Some g) v w inv o was = others_leave h g v w inv o was

-- ---- by its own operations

-- of what a hart has in hand nothing changed
record Stays (h : ℕ) (v w : World) : Type 0 where
  directory : (w.desks h).directory ≡ (v.desks h).directory
  lender : (w.desks h).lender ≡ (v.desks h).lender
  refs : (n : ℕ) → (w.harts h).refs n ≡ (v.harts h).refs n
  shared : (n : ℕ) → v.alone n ≡ false → w.alone n ≡ false

same_still : (h : ℕ) (v : World) → Stays h v v
same_still h v = record { directory = refl; lender = refl; refs = λ n. refl; shared = λ n e. e }

then_ : (h : ℕ) (u v w : World) → Stays h u v → Stays h v w → Stays h u w
then_ h u v w a b = record { directory = b.directory ∙ a.directory; lender = b.lender ∙ a.lender; refs = λ n. b.refs n ∙ a.refs n; shared = λ n e. b.shared n (a.shared n e) }

stays_in_hand : (h : ℕ) (g : Hands) (v w : World) → Stays h v w → HasInHand h g v → HasInHand h (record { has = g.has; last = None }) w
stays_in_hand h g v w s was =
    record {
      hart = was.hart;
      free = s.lender ∙ was.free;
      has = λ n. subst (λ (d : ℕ). one (d == n) + g.has n ≤ (w.harts h).refs n) (sym s.directory) (subst (λ (r : ℕ). one ((v.desks h).directory == n) + g.has n ≤ r) (sym (s.refs n)) (was.has n));
      shared = λ n low. s.shared n (was.shared n (subst (λ (d : ℕ). 1 ≤ one (d == n) + g.has n) s.directory low));
      stands = λ n e. absurd (let q : None ≡ Some n = e in cc);
    }

-- a desk, if nothing but these other things changed
desk_still : (h : ℕ) (v w : World) (d : Desk) → w.desks h ≡ d → d.directory ≡ (v.desks h).directory → d.lender ≡ (v.desks h).lender → ((n : ℕ) → (w.harts h).refs n ≡ (v.harts h).refs n) → ((n : ℕ) → v.alone n ≡ false → w.alone n ≡ false) → Stays h v w
desk_still h v w d is at lender refs shared = record { directory = ap (λ (z : Desk). z.directory) is ∙ at; lender = ap (λ (z : Desk). z.lender) is ∙ lender; refs = refs; shared = shared }

shared_put : (alone : ℕ → Bool) (n k : ℕ) → alone k ≡ false → put alone n false k ≡ false
shared_put alone n k e = elim (same_or k n) [
  | inl q ↦ ap (put alone n false) q ∙ put_same alone n false
  | inr ne ↦ put_other alone n false k ne ∙ e
]

-- ---- what a mark does

shared_clear : (alone : ℕ → Bool) (o : Option ℕ) (k : ℕ) → alone k ≡ false → clear alone o k ≡ false
shared_clear alone None k e = e
shared_clear alone (Some n) k e = shared_put alone n k e

module _ (h : ℕ) (b : Tree) where
  -- the desk has the same directory and the same lender
  record Alike (d e : Desk) : Type 0 where
    directory : e.directory ≡ d.directory
    lender : e.lender ≡ d.lender

  opened_alike : (desks : ℕ → Desk) (fd : ℕ) (o : Option ℕ) → Alike (desks h) (with_opened desks h fd o h)
  opened_alike desks fd None = record { directory = refl; lender = refl }
  opened_alike desks fd (Some id) = let e = put_same desks h (record (desks h) { opening = Some fd }) in record { directory = ap (λ (z : Desk). z.directory) e; lender = ap (λ (z : Desk). z.lender) e }

  noted_alike : (desks : ℕ → Desk) (o : Option ℕ) → Alike (desks h) (with_noted b desks h o h)
  noted_alike desks None = record { directory = refl; lender = refl }
  noted_alike desks (Some n) = let e = put_same desks h (record (desks h) { noted = Some (record { number = n; inode_type = type_of (b.nodes n) }) }) in record { directory = ap (λ (z : Desk). z.directory) e; lender = ap (λ (z : Desk). z.lender) e }

  left_alike : (desks : ℕ → Desk) (o : Option ℕ) → Alike (desks h) (with_left desks h o h)
  left_alike desks None = record { directory = refl; lender = refl }
  left_alike desks (Some d) = let e = put_same desks h (record (desks h) { left = Some d }) in record { directory = ap (λ (z : Desk). z.directory) e; lender = ap (λ (z : Desk). z.lender) e }

made_still : (h : ℕ) (x : Made) (v : World) → Stays h v (with_made h x v)
made_still h x v =
    let a = opened_alike h v.all v.desks (lowest (v.all.fds h)) x.opened in
    let b = noted_alike h v.all (with_opened v.desks h (lowest (v.all.fds h)) x.opened) x.found in
    let c = left_alike h v.all (with_noted v.all (with_opened v.desks h (lowest (v.all.fds h)) x.opened) h x.found) x.left in
    record {
      directory = c.directory ∙ b.directory ∙ a.directory;
      lender = c.lender ∙ b.lender ∙ a.lender;
      refs = λ n. ap (λ (m : Mine). m.refs n) (put_same v.harts h (record { refs = (v.harts h).refs; walk = x.walk; pending = x.found }));
      shared = λ n e. shared_clear v.alone x.entered n e;
    }

spoiled_still : (h : ℕ) (v : World) → Stays h v (spoiled h v)
spoiled_still h v = desk_still h v (spoiled h v) (record (v.desks h) { full = true }) (put_same v.desks h (record (v.desks h) { full = true })) refl refl (λ n. refl) (λ n e. e)

mended_still : (h : ℕ) (v : World) → Stays h v (mended h v)
mended_still h v =
    desk_still h v (mended h v) (record (v.desks h) { opening = None; left = None; full = true }) (put_same v.desks h (record (v.desks h) { opening = None; left = None; full = true })) refl refl
    (λ n. ap (λ (m : Mine). m.refs n) (put_same v.harts h (record { refs = (v.harts h).refs; walk = None; pending = None }))) (λ n e. e)

mark_still : (version : Version) (h : ℕ) (o : Option Mark) (v : World) → Stays h v (marked version h o v)
mark_still version h None v = same_still h v
mark_still version h (Some (Makes m)) v = made_still h (made_by version v.all h (new_id v) (v.harts h).walk m) v
mark_still version h (Some (Frees n)) v = record { directory = refl; lender = refl; refs = λ k. refl; shared = λ k e. e }
mark_still version h (Some (Orphans n)) v = record { directory = refl; lender = refl; refs = λ k. refl; shared = λ k e. shared_put v.alone n k e }
mark_still version h (Some Fills) v = spoiled_still h v
mark_still version h (Some Mends) v = mended_still h v
mark_still version h (Some (Spoils s)) v =
    let u : World = with_made h (made_by version v.all h (new_id v) (v.harts h).walk (OwnMove s 0)) v in
    then_ h v u (spoiled h u) (made_still h (made_by version v.all h (new_id v) (v.harts h).walk (OwnMove s 0)) v) (spoiled_still h u)

-- ---- what an operation does, before its mark

-- if it ran
record RanSo (version : Version) {A : Type 0} (h : ℕ) (m : A → Option Mark) (d : ExecResult A World) (a : A) (w : World) : Type 0 where
  then_is : World
  ran : d ≡ Ran a then_is
  is : w ≡ marked version h (m a) then_is

ran_so : (version : Version) {A : Type 0} (h : ℕ) (m : A → Option Mark) (d : ExecResult A World) (a : A) (w : World) → with_mark version h m d ≡ Ran a w
    → RanSo version h m d a w
ran_so version h m Waits a w e = absurd (let q : Waits ≡ Ran a w = e in cc)
ran_so version h m (Stops u) a w e = absurd (let q : Stops u ≡ Ran a w = e in cc)
ran_so version {A} h m (Ran b u) a w e = record { then_is = u; ran = ap (λ (z : A). Ran z u) same; is = sym (world_is e) ∙ ap (λ (z : A). marked version h (m z) u) same }
  where
    answer_is : ◌≡◌ {A = ExecResult A World} (Ran b (marked version h (m b) u)) (Ran a w) → b ≡ a
    answer_is e = cc

    world_is : ◌≡◌ {A = ExecResult A World} (Ran b (marked version h (m b) u)) (Ran a w) → marked version h (m b) u ≡ w
    world_is e = cc

    same : b ≡ a
    same = answer_is e

ran_there : {A : Type 0} (b a : A) (v u : World) → ◌≡◌ {A = ExecResult A World} (Ran b v) (Ran a u) → v ≡ u
ran_there b a v u e = cc

ran_answer : {A : Type 0} (b a : A) (v u : World) → ◌≡◌ {A = ExecResult A World} (Ran b v) (Ran a u) → b ≡ a
ran_answer b a v u e = cc

-- the root is alive
root_lives : (o : Option Node) → folder o ≢ None → is_live o ≡ true
root_lives o some = by (live_directory o) refl
  where
    by : (b : Bool) → live_directory o ≡ b → is_live o ≡ true
    by true e = live_is o e
    by false e = absurd (some (folder_dead o e))

-- what is counted up has been found
abbrev pub HasFound : ℕ → World → Op → Type 0
HasFound h v (Up n) = Found v.keeper v.all.nodes h n
HasFound h v op = Unit {0}

module _ (version : Version) (h : ℕ) (g : Hands) (v : World) (inv : Inv v) (was : HasInHand h g v) where
  -- nothing of it changed but by the mark
  marked_in_hand : (k : Hands) (u w : World) (o : Option Mark) → HasInHand h k u → w ≡ marked version h o u → HasInHand h (record { has = k.has; last = None }) w
  marked_in_hand k u w o has e = subst (λ (z : World). HasInHand h (record { has = k.has; last = None }) z) (sym e) (stays_in_hand h k u (marked version h o u) (mark_still version h o u) has)

  still_in_hand : (u w : World) (o : Option Mark) → Stays h v u → w ≡ marked version h o u → HasInHand h (record { has = g.has; last = None }) w
  still_in_hand u w o s e = marked_in_hand (record { has = g.has; last = None }) u w o (stays_in_hand h g v u s was) e

  -- ---- an inode's lock

  locks : {A : Type 0} (n : ℕ) (m : A → Option Mark) (b a : A) (w : World) (o : Option ℕ) → with_mark version h m (lock_if h n b v (locked h n v) o) ≡ Ran a w → HasInHand h (record { has = g.has; last = None }) w
  locks n m b a w (Some k) e = absurd (let q : Waits ≡ Ran a w = e in cc)
  locks {A} n m b a w None e =
      let r = ran_so version h m (Ran b (locked h n v)) a w e in
      still_in_hand r.then_is w (m a) (subst (Stays h v) (ran_there b a (locked h n v) r.then_is r.ran) (record { directory = refl; lender = refl; refs = λ k. refl; shared = λ k x. x })) r.is

  unlocks : {A : Type 0} (n : ℕ) (b : Bool) (m : A → Option Mark) (c a : A) (w : World) → with_mark version h m (Ran c (unlocked n v b)) ≡ Ran a w → HasInHand h (record { has = g.has; last = None }) w
  unlocks n b m c a w e =
      let r = ran_so version h m (Ran c (unlocked n v b)) a w e in
      still_in_hand r.then_is w (m a) (subst (Stays h v) (ran_there c a (unlocked n v b) r.then_is r.ran) (by b)) r.is
    where
      by : (b : Bool) → Stays h v (unlocked n v b)
      by true = record { directory = refl; lender = refl; refs = λ k. refl; shared = λ k x. x }
      by false = record { directory = refl; lender = refl; refs = λ k. refl; shared = λ k x. x }

  -- ---- a reference more

  -- who is alive nobody keeps alone
  alive : (n : ℕ) → is_live (v.all.nodes n) ≡ true → v.alone n ≡ false
  alive n live = by (v.alone n) refl
    where
      by : (b : Bool) → v.alone n ≡ b → v.alone n ≡ false
      by false e = e
      by true e = absurd (let d = (inv.alone n e).dead in cc (d, live))

  found_alive : (n : ℕ) → Found v.keeper v.all.nodes h n → v.alone n ≡ false
  found_alive n f = alive n (look_live v.all f.directory n f.name inv.well f.finds)

  here : (n : ℕ) → 1 ≤ one (n == n) + g.has n
  here n = rw (eq_self n) (omega arith)

  start_alive : (absolute : Bool) → v.alone (start_number (v.desks h) absolute) ≡ false
  start_alive true = alive root (root_lives (v.all.nodes root) inv.well.forest.rooted)
  start_alive false = was.shared (v.desks h).directory (here (v.desks h).directory)

  ups : (n : ℕ) → v.alone n ≡ false → HasInHand h (record { has = counted n g.has; last = None }) (counted_up h n v)
  ups n shared =
      record {
        hart = was.hart;
        free = was.free;
        has = λ k. let a = was.has k in elim (same_or k n) [
          | inl q ↦ has_same k q (was.has n)
          | inr ne ↦ has_other k ne (was.has k)
        ];
        shared = λ k low. elim (same_or k n) [
          | inl q ↦ ap v.alone q ∙ shared
          | inr ne ↦ was.shared k (less ((v.desks h).directory == k) (n == k) (g.has k) (eq_not n k (λ q. ne (sym q))) low)
        ];
        stands = λ k e. absurd (let q : None ≡ Some k = e in cc);
      }
    where
      less : (a b : Bool) (k : ℕ) → b ≡ false → 1 ≤ one a + (one b + k) → 1 ≤ one a + k
      less a false k e low = omega (arith, low)
      less a true k e low = absurd (let q : true ≡ false = e in cc)

      refs_are : (k : ℕ) → ((counted_up h n v).harts h).refs k ≡ put (v.harts h).refs n ((v.harts h).refs n + 1) k
      refs_are k = ap (λ (m : Mine). m.refs k) (put_same v.harts h (record { refs = put (v.harts h).refs n ((v.harts h).refs n + 1); walk = (v.harts h).walk; pending = None }))

      has_same : (k : ℕ) → k ≡ n → one ((v.desks h).directory == n) + g.has n ≤ (v.harts h).refs n → one ((v.desks h).directory == k) + counted n g.has k ≤ ((counted_up h n v).harts h).refs k
      has_same k q low =
          subst (λ (z : ℕ). one ((v.desks h).directory == z) + counted n g.has z ≤ ((counted_up h n v).harts h).refs z) (sym q)
          (subst (λ (r : ℕ). one ((v.desks h).directory == n) + counted n g.has n ≤ r) (sym (refs_are n ∙ put_same (v.harts h).refs n ((v.harts h).refs n + 1)))
          (rw (eq_self n) (omega (arith, low))))

      has_other : (k : ℕ) → k ≢ n → one ((v.desks h).directory == k) + g.has k ≤ (v.harts h).refs k → one ((v.desks h).directory == k) + counted n g.has k ≤ ((counted_up h n v).harts h).refs k
      has_other k ne low =
          subst (λ (r : ℕ). one ((v.desks h).directory == k) + counted n g.has k ≤ r) (sym (refs_are k ∙ put_other (v.harts h).refs n ((v.harts h).refs n + 1) k ne))
          (subst (λ (b : Bool). one ((v.desks h).directory == k) + (one b + g.has k) ≤ (v.harts h).refs k) (sym (eq_not n k (λ q. ne (sym q)))) (omega (arith, low)))

  -- ---- a reference less, in a walk

  module _ (n : ℕ) (low : 1 ≤ g.has n) where
    fewer : (a b : Bool) (k : ℕ) → 1 ≤ one a + (k - one b) → 1 ≤ one a + k
    fewer a true k some = omega (arith, some)
    fewer a false k some = omega (arith, some)

    -- it was the last one, so that none is in hand any more
    drops : is_last v n ≡ true → HasInHand h (record { has = uncounted n g.has; last = None }) (reserved h n v)
    drops is =
        record {
          hart = was.hart;
          free = was.free;
          has = λ k. let a = was.has k in by (n == k) k a;
          shared = λ k some. elim (same_or k n) [
            | inl q ↦ absurd (gone (subst (λ (z : ℕ). 1 ≤ one ((v.desks h).directory == z) + (g.has z - one (n == z))) q some))
            | inr ne ↦ put_other v.alone n true k ne ∙ was.shared k (fewer ((v.desks h).directory == k) (n == k) (g.has k) some)
          ];
          stands = λ k e. absurd (let q : None ≡ Some k = e in cc);
        }
      where
        by : (b : Bool) (k : ℕ) → one ((v.desks h).directory == k) + g.has k ≤ (v.harts h).refs k → one ((v.desks h).directory == k) + (g.has k - one b) ≤ (v.harts h).refs k
        by true k a = omega (arith, a)
        by false k a = omega (arith, a)

        gone : 1 ≤ one ((v.desks h).directory == n) + (g.has n - one (n == n)) → ⊥
        gone some =
            let one_left : v.refs n ≡ 1 = eq_is (v.refs n) 1 (and_true (v.refs n == 1) (is_dead (v.disk n)) is).0 in
            let all = one_refs v h n inv was.hart in
            let mine = was.has n in
            let more : 1 ≤ one ((v.desks h).directory == n) + (g.has n - 1) = subst (λ (b : Bool). 1 ≤ one ((v.desks h).directory == n) + (g.has n - one b)) (eq_self n) some in
            omega (arith, one_left, all, mine, more, low)

    counts : HasInHand h (record { has = uncounted n g.has; last = None }) (counted_down h n v)
    counts =
        record {
          hart = was.hart;
          free = was.free;
          has = λ k. elim (same_or k n) [
            | inl q ↦ subst (λ (z : ℕ). one ((v.desks h).directory == z) + uncounted n g.has z ≤ ((counted_down h n v).harts h).refs z) (sym q) here_fewer
            | inr ne ↦ there k ne (was.has k)
          ];
          shared = λ k some. shared_put v.alone n k (was.shared k (fewer ((v.desks h).directory == k) (n == k) (g.has k) some));
          stands = λ k e. absurd (let q : None ≡ Some k = e in cc);
        }
      where
        refs_are : (k : ℕ) → ((counted_down h n v).harts h).refs k ≡ put (v.harts h).refs n ((v.harts h).refs n - 1) k
        refs_are k = ap (λ (m : Mine). m.refs k) (put_same v.harts h (record { refs = put (v.harts h).refs n ((v.harts h).refs n - 1); walk = (v.harts h).walk; pending = (v.harts h).pending }))

        here_fewer : one ((v.desks h).directory == n) + uncounted n g.has n ≤ ((counted_down h n v).harts h).refs n
        here_fewer =
            subst (λ (r : ℕ). one ((v.desks h).directory == n) + uncounted n g.has n ≤ r) (sym (refs_are n ∙ put_same (v.harts h).refs n ((v.harts h).refs n - 1)))
            (subst (λ (b : Bool). one ((v.desks h).directory == n) + (g.has n - one b) ≤ (v.harts h).refs n - 1) (sym (eq_self n)) (let a = was.has n in omega (arith, a, low)))

        there : (k : ℕ) → k ≢ n → one ((v.desks h).directory == k) + g.has k ≤ (v.harts h).refs k → one ((v.desks h).directory == k) + uncounted n g.has k ≤ ((counted_down h n v).harts h).refs k
        there k ne a =
            subst (λ (r : ℕ). one ((v.desks h).directory == k) + uncounted n g.has k ≤ r) (sym (refs_are k ∙ put_other (v.harts h).refs n ((v.harts h).refs n - 1) k ne))
            (by (n == k))
          where
            by : (b : Bool) → one ((v.desks h).directory == k) + (g.has k - one b) ≤ (v.harts h).refs k
            by true = omega (arith, a)
            by false = omega (arith, a)

  -- ---- each operation

  module _ (x : Outside) where
    starts : (absolute : Bool) (m : Option ℕ → Option Mark) (a : Option ℕ) (w : World) (n : ℕ) → v.alone n ≡ false → (b : Bool) → with_mark version h m (start_if h n v b) ≡ Ran a w → Holds h (started a (Some g)) w
    starts absolute m a w n shared true e =
        let r = ran_so version h m (Ran (Some n) (counted_up h n v)) a w e in
        subst (λ (o : Option ℕ). Holds h (started o (Some g)) w) (ran_answer (Some n) a (counted_up h n v) r.then_is r.ran)
        (marked_in_hand (record { has = counted n g.has; last = None }) r.then_is w (m a) (subst (HasInHand h (record { has = counted n g.has; last = None })) (ran_there (Some n) a (counted_up h n v) r.then_is r.ran) (ups n shared)) r.is)
    starts absolute m a w n shared false e =
        let r = ran_so version h m (Ran None v) a w e in
        subst (λ (o : Option ℕ). Holds h (started o (Some g)) w) (ran_answer None a v r.then_is r.ran)
        (still_in_hand r.then_is w (m a) (subst (Stays h v) (ran_there None a v r.then_is r.ran) (same_still h v)) r.is)

    finds : (n : ℕ) (m : Bool → Option Mark) (a : Bool) (w : World) → Found v.keeper v.all.nodes h n → m true ≡ None → (b : Bool) → with_mark version h m (up_if h n v b) ≡ Ran a w → Holds h (up n a (Some g)) w
    finds n m a w found none true e =
        let r = ran_so version h m (Ran true (counted_up h n v)) a w e in
        let there = ran_there true a (counted_up h n v) r.then_is r.ran in
        let same : true ≡ a = ran_answer true a (counted_up h n v) r.then_is r.ran in
        let is : w ≡ counted_up h n v = r.is ∙ (λ i. marked version h (m (sym same i)) (sym there i))
        ∙ ap (λ (o : Option Mark). marked version h o (counted_up h n v)) none in
        let has = ups n (found_alive n found) in
        subst (λ (o : Bool). Holds h (up n o (Some g)) w) same
        (subst (λ (z : World). HasInHand h (record { has = counted n g.has; last = Some n }) z) (sym is)
        (record { hart = has.hart; free = has.free; has = has.has; shared = has.shared; stands = λ k q. subst (λ (z : ℕ). Found v.keeper v.all.nodes h z) (let s : Some n ≡ Some k = q in cc) found }))
    finds n m a w found none false e =
        let r = ran_so version h m (Ran false v) a w e in
        subst (λ (o : Bool). Holds h (up n o (Some g)) w) (ran_answer false a v r.then_is r.ran)
        (still_in_hand r.then_is w (m a) (subst (Stays h v) (ran_there false a v r.then_is r.ran) (same_still h v)) r.is)

    gives : (n : ℕ) → 1 ≤ g.has n → (m : Bool → Option Mark) (a : Bool) (w : World) (b : Bool) → is_last v n ≡ b → with_mark version h m (walk_down_if h n v b) ≡ Ran a w → Holds h (down n (Some g)) w
    gives n low m a w true is e =
        let r = ran_so version h m (Ran true (reserved h n v)) a w e in
        marked_in_hand (record { has = uncounted n g.has; last = None }) r.then_is w (m a) (subst (HasInHand h (record { has = uncounted n g.has; last = None })) (ran_there true a (reserved h n v) r.then_is r.ran) (drops n low is)) r.is
    gives n low m a w false is e =
        let r = ran_so version h m (Ran false (counted_down h n v)) a w e in
        marked_in_hand (record { has = uncounted n g.has; last = None }) r.then_is w (m a) (subst (HasInHand h (record { has = uncounted n g.has; last = None })) (ran_there false a (counted_down h n v) r.then_is r.ran) (counts n low)) r.is

    pub acts_in_hand : (op : Op) (m : Answer op → Option Mark) (a : Answer op) (w : World) → HasFound h v op → AsksSo (Some g) op m → go version h x op m v ≡ Ran a w → Holds h (after op a (Some g)) w
    acts_in_hand (Take n looking) m a w found asks e = locks n m (seen_in version n looking (v.disk n)) a w (v.lock n) e
    acts_in_hand (UnlockInode n) m a w found asks e = unlocks n (v.alone n) m tt a w e
    acts_in_hand (UpStart absolute) m a w found asks e = starts absolute m a w (start_number (v.desks h) absolute) (start_alive absolute) (has_place v (start_number (v.desks h) absolute)) e
    acts_in_hand (Up n) m a w found asks e = finds n m a w found asks (has_place v n) e
    acts_in_hand (WalkDown n) m a w found asks e = gives n asks m a w (is_last v n) refl e
    acts_in_hand (Store n count) m a w found asks e =
        let u : World = changed_record v n (with_count count) in
        let r = ran_so version h m (Ran tt u) a w e in
        still_in_hand r.then_is w (m a) (subst (Stays h v) (ran_there tt a u r.then_is r.ran) (record { directory = refl; lender = refl; refs = λ k. refl; shared = λ k q. q })) r.is
    acts_in_hand Join m a w found asks e =
        let u : World = with_joined v h true in
        let r = ran_so version h m (Ran tt u) a w e in
        still_in_hand r.then_is w (m a) (subst (Stays h v) (ran_there tt a u r.then_is r.ran) (desk_still h v u (record (v.desks h) { joined = true }) (put_same v.desks h (record (v.desks h) { joined = true })) refl refl (λ k. refl) (λ k q. q))) r.is
    acts_in_hand op m a w found asks e = tt

-- ---- an operation of a call that is followed, or isn't any more

none_after : (op : Op) (a : Answer op) → after op a None ≡ None
none_after (Take n looking) a = refl
none_after (UnlockInode n) a = refl
none_after (UpStart absolute) a = refl
none_after (Up n) a = refl
none_after (WalkDown n) a = refl
none_after (Store n count) a = refl
none_after Join a = refl
none_after op a = refl

pub acts_so : (version : Version) (h : ℕ) (g : Option Hands) (v : World) → Inv v → Holds h g v → (x : Outside) (op : Op) (m : Answer op → Option Mark) (a : Answer op) (w : World) → HasFound h v op → AsksSo g op m → go version h x op m v ≡ Ran a w → Holds h (after op a g) w
acts_so version h None v inv was x op m a w found asks e = subst (λ (k : Option Hands). Holds h k w) (sym (none_after op a)) tt
acts_so version h (Some g) v inv was x op m a w found asks e = acts_in_hand version h g v inv was x op m a w found asks e

-- ---- as a call begins

-- nothing but its current directory
abbrev pub empty_hands : Hands
empty_hands = record { has = λ n. 0; last = None }

module _ (h : ℕ) (w : World) (inv : Inv w) (lt : h < hart_count) (free : (w.desks h).lender ≡ None) (idle : Idle h w) where
  keeps_none : (n : ℕ) → w.keeper n ≢ Some h
  keeps_none n = has_none h n w (own_of h w) refl (ap (λ (f : ℕ → Option Held). f n) idle.inodes)

  directory_refs : (n : ℕ) (b : Bool) → ((w.desks h).directory == n) ≡ b → one b + 0 ≤ (w.harts h).refs n
  directory_refs n false e = omega arith
  directory_refs n true e = let home = (inv.refers h lt).home in let q : (w.harts h).refs (w.desks h).directory ≡ (w.harts h).refs n = ap (w.harts h).refs (eq_is (w.desks h).directory n e) in omega (arith, home, q)

  rests_in_hand : HasInHand h empty_hands w
  rests_in_hand =
      record {
        hart = lt;
        free = free;
        has = λ n. directory_refs n ((w.desks h).directory == n) refl;
        shared = λ n low. lone h n w inv lt (let a = directory_refs n ((w.desks h).directory == n) refl in omega (arith, a, low)) (λ keeps. absurd (keeps_none n keeps));
        stands = λ n e. absurd (let q : None ≡ Some n = e in cc);
      }

same_starts : (h : ℕ) (w u : World) → ◌≡◌ {A = Began Refusal World} (Begins w) (Begins u) → Stays h w u
same_starts h w u e = subst (Stays h w) (begun_same w u e) (same_still h w)

starts_still : (h : ℕ) (call : Call) (busy : ℕ → Bool) (w u : World) → begin_call h call busy w ≡ Begins u → Stays h w u
starts_still h (calls.Open path flags) busy w u e = same_starts h w u e
starts_still h (calls.Read fd buffer) busy w u e = same_starts h w u e
starts_still h (calls.Write fd bytes) busy w u e = same_starts h w u e
starts_still h (calls.Link old new) busy w u e = same_starts h w u e
starts_still h (calls.Unlink path) busy w u e = same_starts h w u e
starts_still h (calls.Mkdir path) busy w u e = same_starts h w u e
starts_still h (calls.Chdir path) busy w u e = same_starts h w u e
starts_still h (calls.Dup fd) busy w u e = same_starts h w u e
starts_still h (calls.Fstat fd) busy w u e = same_starts h w u e
starts_still h (calls.Close fd) busy w u e = same_starts h w u e
starts_still h (calls.Inherit child) busy w u e =
    let i = inherit_begins h child busy w u e in
    let server : Desk = record (w.desks h) { lent = serving child None } in
    subst (Stays h w) i.is
    (desk_still h w (serving_world w h child) server (put_other (put w.desks h server) child (record (w.desks child) { lender = Some h }) h (λ q. i.apart (sym q)) ∙ put_same w.desks h server) refl refl (λ n. refl) (λ n q. q))

pub started_in_hand : (kind : Call → Bool) (h : ℕ) (call : Call) (busy : ℕ → Bool) (w u : World) → Inv w → Idle h w → begin_if (kind call) h call busy w ≡ Begins u → HasInHand h empty_hands u
started_in_hand kind h call busy w u inv idle e =
    let s = start_is kind h call busy w u e in
    stays_in_hand h empty_hands w u (starts_still h call busy w u s.begins) (rests_in_hand h w inv s.hart s.unlent idle)
