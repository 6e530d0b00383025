-- The locks of inodes, taken and given back.
use Rattle.inodes_on_blocks.proofs.Vocabulary.{◌≡◌, ◌≢◌, ℕ, ◌<◌, List, length-set, Option, Some, None, refl, sym, ◌∙◌, ap, subst, arith, slice_get, slice_set, IsSome, option_map, option_map_or, slice_get_within, SlotState, taken, filled, lock_row_at, lock_of, ExecResult, Waits, Ran, put, Inode, TablesState, place_of, references_in, holder_in, holder_at, lock_inode, unlock_inode, unlock_at, locked_as, IsSoundInodes, PlaceFits, InsideFits, found, all_placed_set, lock_ran, lock_good, lock_if, locked, PlacesShow, BothCame, loaded_of, loaded_at, loaded_in, LocksAreTaken, LocksAreGiven, Loaded}
use Rattle.sleep_lock.specs.SleepLock.{guard_of}
use Rattle.fs_machine.proofs.Places.{Found}
use Rattle.fs_machine.proofs.Locking.{slot_at}
use Rattle.inode_machine.specs.Inodes.{seen_in}
use Rattle.inode_machine.specs.World.{World}
use Rattle.inodes_on_blocks.specs.ShownTables.{Shows}
use Rattle.inodes_on_blocks.proofs.Places.{locks_set}

-- the cases of a place: there is one, or none
pub some_place : (o : Option ℕ) (P : Type 0) → ((k : ℕ) → o ≡ Some k → P) → (o ≡ None → P) → P
some_place None P some none = none refl
some_place (Some k) P some none = some k refl

lock_row : (locks : List (SlotState Inode)) (k h : ℕ) (s : SlotState Inode) → slice_get locks k ≡ Some s → (slice_set locks k (taken s h), guard_of s h) ≡ lock_of locks k h
unfolding lock_of
lock_row locks k h s e = sym (ap (lock_row_at locks k h) e)

-- both ran, or both wait
pub both_ran : {A B : Type 0} (Fits : A → B → Type 0) (load : A → ℕ → Option Loaded) (d : ExecResult A TablesState) (e : ExecResult B World) (a : A) (b : B) (t : TablesState) (w : World)
    → d ≡ Ran a t → e ≡ Ran b w → Fits a b → Shows t w (load a) → BothCame Fits load d e
both_ran {A} {B} Fits load d e a b t w is is_too fits shows =
    subst (λ (x : ExecResult A TablesState). BothCame Fits load x e) (sym is) (subst (λ (y : ExecResult B World). BothCame Fits load (Ran a t) y) (sym is_too) (fits, shows))

pub both_wait : {A B : Type 0} (Fits : A → B → Type 0) (load : A → ℕ → Option Loaded) (d : ExecResult A TablesState) (e : ExecResult B World) → d ≡ Waits → e ≡ Waits → BothCame Fits load d e
both_wait {A} {B} Fits load d e is is_too = subst (λ (x : ExecResult A TablesState). BothCame Fits load x e) (sym is) (subst (λ (y : ExecResult B World). BothCame Fits load Waits y) (sym is_too) tt)

-- an inode that has a reference has a place
pub place_there : (n : ℕ) (t : TablesState) (w : World) (load : ℕ → Option Loaded) → Shows t w load → 0 < w.refs n → (k : ℕ) × (place_of n t.entries ≡ Some k)
place_there n t w load shows lt = at (place_of n t.entries) refl
  where
    at : (o : Option ℕ) → place_of n t.entries ≡ o → (k : ℕ) × (place_of n t.entries ≡ Some k)
    at (Some k) e = (k, e)
    at None e = absurd (let c : w.refs n ≡ 0 = shows.places.counts n ∙ ap (references_in t.entries) e in omega (arith, c, lt))

module _ (h n k : ℕ) (t : TablesState) (w : World) (load : ℕ → Option Loaded) (shows : Shows t w load) (e : place_of n t.entries ≡ Some k) where
  inodes : IsSoundInodes t.entries t.locks
  inodes = shows.sound.inodes

  -- the lock's slot, at the inode's place
  pub slot_with : (s : SlotState Inode) → slice_get t.locks k ≡ Some s → (w.lock n ≡ s.holder) × (load n ≡ loaded_of s.inside)
  slot_with s there = (shows.places.holders n ∙ ap (holder_in t.locks) e ∙ ap holder_at there, shows.places.loads n ∙ ap (loaded_in t.locks) e ∙ ap loaded_at there)

  -- the tables after it
  pub shown_locked : (s : SlotState Inode) → slice_get t.locks k ≡ Some s → s.holder ≡ None → s.inside ≢ None → Shows (record t { locks = slice_set t.locks k (taken s h) }) (locked h n w) (put load n None)
  shown_locked s there free full = record {
    sound = record { inodes = lock_good h n k t.entries t.locks (slice_set t.locks k (taken s h)) (guard_of s h) f inodes (lock_row t.locks k h s there); files = shows.sound.files; desks = shows.sound.desks };
    places = is s.inside refl;
    files = shows.files;
    desks = shows.desks;
    lenders = shows.lenders;
    range = shows.range;
  }
    where
      f : Found n t.entries k
      f = found n t.entries k e

      set_so : PlacesShow t.entries (slice_set t.locks k (taken s h)) w.refs (put w.lock n (taken s h).holder) (put load n None)
      set_so = locks_set t.entries t.locks k n (taken s h) inodes.once e (slice_get_within t.locks k s there) w.refs w.lock load shows.places

      is : (o : Option Inode) → s.inside ≡ o → PlacesShow t.entries (slice_set t.locks k (taken s h)) w.refs (put w.lock n (Some h)) (put load n None)
      is None q = absurd (full q)
      is (Some v) q = subst (λ (z : Option ℕ). PlacesShow t.entries (slice_set t.locks k (taken s h)) w.refs (put w.lock n z) (put load n None)) (ap (λ (z : Option Inode). option_map_or (λ _. Some h) z s.holder) q) set_so

  -- by what the lock answers
  pub by_lock : (P : Type 0) → (lock_inode h n t ≡ Waits → (g : ℕ) → w.lock n ≡ Some g → P)
      → ((u : TablesState) → lock_inode h n t ≡ Ran (load n) u → w.lock n ≡ None → Shows u (locked h n w) (put load n None) → P) → P
  by_lock P waits had = by_slot (slot_at t.entries t.locks k f.entry inodes f.there)
    where
      f : Found n t.entries k
      f = found n t.entries k e

      ran : (s : SlotState Inode) → slice_get t.locks k ≡ Some s → lock_inode h n t ≡ locked_as (guard_of s h) (record t { locks = slice_set t.locks k (taken s h) })
      ran s there = lock_ran h n k t (slice_set t.locks k (taken s h)) (guard_of s h) e (lock_row t.locks k h s there)

      by_inside : (s : SlotState Inode) → slice_get t.locks k ≡ Some s → (o : Option Inode) → s.inside ≡ o → InsideFits f.entry s.holder o → P
      by_inside s there None q fits = by_holder s.holder refl
        where
          by_holder : (o : Option ℕ) → s.holder ≡ o → P
          by_holder None z = absurd (let out : IsSome {T = ℕ} None = subst (λ (x : Option ℕ). IsSome x) z fits.0 in cc out)
          by_holder (Some g) z =
              waits (ran s there ∙ ap (λ (x : Option Inode). locked_as (option_map (λ v. record { number = s.number; hart = h; value = v }) x) (record t { locks = slice_set t.locks k (taken s h) })) q)
              g ((slot_with s there).0 ∙ z)
      by_inside s there (Some v) q fits =
          had (record t { locks = slice_set t.locks k (taken s h) })
          (ran s there ∙ ap (λ (x : Option Inode). locked_as (option_map (λ v. record { number = s.number; hart = h; value = v }) x) (record t { locks = slice_set t.locks k (taken s h) })) q
          ∙ ap (λ (c : Option Loaded). Ran c (record t { locks = slice_set t.locks k (taken s h) })) (sym ((slot_with s there).1 ∙ ap loaded_of q)))
          ((slot_with s there).0 ∙ fits.0)
          (shown_locked s there fits.0 (λ z. absurd (let y : None ≡ Some v = sym z ∙ q in cc)))

      by_slot : (s : SlotState Inode) × (slice_get t.locks k ≡ Some s) × PlaceFits k f.entry s → P
      by_slot at = by_inside at.0 at.1 at.0.inside refl at.2.1

pub locks_are_taken : LocksAreTaken
locks_are_taken version h n looking t w load shows lt =
    let p = place_there n t w load shows lt in
    by_lock h n p.0 t w load shows p.1 _
    (λ waits g out. both_wait _ _ _ _ waits (ap (lock_if h n (seen_in version n looking (w.disk n)) w (locked h n w)) out))
    (λ u ran free after. both_ran _ _ _ _ (load n) (seen_in version n looking (w.disk n)) u (locked h n w) ran (ap (lock_if h n (seen_in version n looking (w.disk n)) w (locked h n w)) free) (refl, refl) after)

-- ---- given back

pub locks_are_given : LocksAreGiven
unfolding unlock_inode
locks_are_given h v t w load shows mine = at (place_of v.number t.entries) refl
  where
    at : (o : Option ℕ) → place_of v.number t.entries ≡ o → Shows (unlock_at v t o) (record w { lock = put w.lock v.number None }) (put load v.number v.content)
    at None e = absurd (let c : None ≡ Some h = sym (ap (holder_in t.locks) e) ∙ sym (shows.places.holders v.number) ∙ mine in cc)
    at (Some k) e =
        let f = found v.number t.entries k e in
        let s = slot_at t.entries t.locks k f.entry shows.sound.inodes f.there in
        record {
          sound = record {
            inodes = record {
              places = shows.sound.inodes.places;
              same = length-set t.locks k (filled k v) ∙ shows.sound.inodes.same;
              placed = all_placed_set t.entries t.locks k f.entry (filled k v) f.there (refl, (refl, λ _. sym f.number)) shows.sound.inodes.placed;
              once = shows.sound.inodes.once;
            };
            files = shows.sound.files;
            desks = shows.sound.desks;
          };
          places = locks_set t.entries t.locks k v.number (filled k v) shows.sound.inodes.once e (slice_get_within t.locks k s.0 s.1) w.refs w.lock load shows.places;
          files = shows.files;
          desks = shows.desks;
          lenders = shows.lenders;
          range = shows.range;
        }
