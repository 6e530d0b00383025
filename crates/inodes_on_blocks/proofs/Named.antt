-- What descriptors name: doubled, shut, asked for; and the directory.
use Rattle.inodes_on_blocks.proofs.Vocabulary.{◌≡◌, inl, inr, ℕ, ◌+◌, ◌<◌, nat_lt, Bool, true, false, if◌then◌else◌, Option, Some, None, refl, sym, ◌∙◌, ap, subst, arith, List, slice_get, slice_set, option_map, none-some, Ran, put, lowest, has_room, hart_count, descriptor_count, same_or, put_same, put_other, FilePlace, TablesState, place_named, file_named, file_in, open_at, with_desk, unlock_inode, settle_inode, settled, directory_of, with_directory, refusal_of, mode_refuses, lock_file, lock_unless, with_file, lock_inode, moved_at, unlocked_in, LockedState, Refuses, Locks, tables_offset, double_descriptor, double_at, double_to, with_descriptor, IsSoundTables, InodeType, OfDirectory, OfFile, OfDevice, face_of, face_or, Cause, Desk, Entry, LockResult, NotLocked, LocksIt, file_count, slot_at, entry_at, is_at, double_if, entry_moved, lock_if, locked, unlocked, mode_refusal, read_refused, with_offset, write_refused, Inv, opens_slots, BothCame, DeskShows, DesksShow, FilesShow, Runs, kind_of, file_of, place_with, is_taken, doubled_as, refused_as, DescriptorsAreDoubled, DirectoriesAreSettled, DescriptorsNameFiles, FitsStat, FitsRead, load_locked, FilesAreLocked, FilesAreLockedToRead, OffsetsAreMoved, Loaded}
use Rattle.fs_machine.specs.declared.desk.Desk as cards
use Rattle.fs_machine.specs.declared.files.FilePlace.TheVariants.{Open}
use Rattle.fs_machine.specs.declared.files.Want.TheVariants as want
use Rattle.fs_machine.specs.declared.files.OpenFile as tables
use Rattle.fs_machine.specs.declared.slots.Doubled.TheVariants as doubled
use Rattle.fs_machine.specs.declared.files.Refused.TheVariants as refused
use Rattle.inode_machine.specs.World.{World}
use Rattle.inode_machine.specs.Exec as above
use Rattle.inode_machine.specs.Exec.{entry_of}
use Rattle.inodes_on_blocks.specs.ShownTables.{Shows}
use Rattle.inodes_on_blocks.proofs.Locks.{both_ran, both_wait, by_lock, place_there, locks_are_given}
use Rattle.inodes_on_blocks.proofs.Desks.{lenders_set, own_desk, named_is, taken_same}
use Rattle.inodes_on_blocks.proofs.Slots.{card_set, below_is, desk_set, files_set, long_desks, long_files, empty_is}

-- a descriptor that names a slot
pub record Names (h fd s : ℕ) (w : World) : Type 0 where
  pub below : fd < descriptor_count
  pub is : (w.desks h).fds fd ≡ Some s
  pub entry : Entry
  pub at : w.files s ≡ Some entry
  pub within : s < file_count

pub names_at : (h fd s : ℕ) (w : World) → Inv w → h < hart_count → slot_at w h fd ≡ Some s → Names h fd s w
names_at h fd s w inv lt e = at (nat_lt fd descriptor_count) refl e
  where
    at : (b : Bool) → nat_lt fd descriptor_count ≡ b → (if b then (w.desks h).fds fd else None) ≡ Some s → Names h fd s w
    at false q e = absurd (none-some s e)
    at true q e =
        let low = below_is fd descriptor_count q in
        let u = inv.tied.used h fd s lt low e in
        record { below = low; is = e; entry = u.0; at = u.1; within = inv.tied.within s u.0 u.1 }

-- ---- what is named

module _ (h fd : ℕ) (t : TablesState) (w : World) (load : ℕ → Option Loaded) (shows : Shows t w load) (inv : Inv w) (runs : Runs h w) where
  pub open_there : (s : ℕ) (n : Names h fd s w) → open_at (slice_get t.files s) ≡ Some (file_of n.entry)
  open_there s n = ap open_at (shows.files s n.within) ∙ ap (λ (o : Option Entry). open_at (Some (place_with (is_taken w.desks s) o))) n.at

  pub file_is : file_named h fd t ≡ option_map file_of (entry_of w h fd)
  file_is = ap (file_in t.files) (named_is h fd t w load shows runs) ∙ at (slot_at w h fd) refl
    where
      at : (o : Option ℕ) → slot_at w h fd ≡ o → file_in t.files o ≡ option_map file_of (entry_at w.files o)
      at None e = refl
      at (Some s) e = let n = names_at h fd s w inv runs.below e in open_there s n ∙ sym (ap (option_map file_of) n.at)

device_same : (inode_type : InodeType) (m : Bool) (f : tables.OpenFile) → f.kind ≡ kind_of inode_type → mode_refuses m f ≡ option_map refused_as (mode_refusal m inode_type)
device_same OfDirectory true f e = ap (λ k. mode_refuses true (record f { kind = k })) e
device_same OfFile true f e = ap (λ k. mode_refuses true (record f { kind = k })) e
device_same (OfDevice major) true f e = ap (λ k. mode_refuses true (record f { kind = k })) e
device_same inode_type false f e = refl

reads_alike : (o : Option Entry) → refusal_of want.Read (option_map file_of o) ≡ option_map refused_as (read_refused o)
reads_alike None = refl
reads_alike (Some e) = device_same e.inode_type e.file.readable (file_of e) refl

writes_alike : (o : Option Entry) → refusal_of want.Write (option_map file_of o) ≡ option_map refused_as (write_refused o)
writes_alike None = refl
writes_alike (Some e) = device_same e.inode_type e.file.writable (file_of e) refl

pub descriptors_name_files : DescriptorsNameFiles
descriptors_name_files h fd t w load shows inv runs =
    let e = file_is h fd t w load shows inv runs in
    (e, ap (refusal_of want.Read) e ∙ reads_alike (entry_of w h fd), ap (refusal_of want.Write) e ∙ writes_alike (entry_of w h fd))

-- ---- doubled

-- a card with another descriptor, and the same in hand
pub card_named : (d : cards.Desk) (fds : ℕ → Option ℕ) (cwd : ℕ) (hand : Option ℕ) (fd : ℕ) (o : Option ℕ) → DeskShows d fds cwd hand → fd < descriptor_count → DeskShows (with_descriptor fd o d) (put fds fd o) cwd hand
card_named d fds cwd hand fd o s lt = let c = card_set d fds cwd hand hand fd o s lt in record { long = c.long; descriptors = c.descriptors; directory = c.directory; hand = s.hand }

-- the places after an open file's count of descriptors changed
pub files_counted : (h fd s r : ℕ) (o : Option ℕ) (t : TablesState) (w : World) (load : ℕ → Option Loaded) → Shows t w load → (n : Names h fd s w) → (new : Desk) → new.hand ≡ (w.desks h).hand
    → FilesShow t.files (put w.files s (Some (record { file = n.entry.file; inode_type = n.entry.inode_type; references = r }))) (put w.desks h new)
files_counted h fd s r o t w load shows n new same j lt = elim (same_or j s) [
  | inl q ↦
      shows.files j lt ∙ ap (λ (x : Option Entry). Some (place_with (is_taken w.desks j) x)) (ap w.files q ∙ n.at)
      ∙ sym (ap (λ (x : Option Entry). Some (place_with (is_taken (put w.desks h new) j) x)) (ap (put w.files s (Some (record { file = n.entry.file; inode_type = n.entry.inode_type; references = r }))) q ∙ put_same w.files s (Some (record { file = n.entry.file; inode_type = n.entry.inode_type; references = r }))))
  | inr ne ↦
      shows.files j lt
      ∙ (λ z. Some (place_with (sym (taken_same w.desks h new j (ap (λ (x : Option ℕ). is_at x j) same)) z) (sym (put_other w.files s (Some (record { file = n.entry.file; inode_type = n.entry.inode_type; references = r })) j ne) z)))
]

pub descriptors_are_doubled : DescriptorsAreDoubled
unfolding double_descriptor
descriptors_are_doubled version h fd t w load shows inv runs = at (slot_at w h fd) refl
  where
    Goal : Type 0
    Goal = BothCame (λ a b. a ≡ doubled_as b) (λ a. load) (double_at h t (place_named h fd t)) (above.double_at h w (slot_at w h fd) (entry_of w h fd))

    low : ℕ
    low = lowest (w.desks h).fds

    lower : (o : Option ℕ) → slot_at w h fd ≡ o → double_at h t (place_named h fd t) ≡ double_at h t o
    lower o e = ap (double_at h t) (named_is h fd t w load shows runs ∙ e)

    upper : (o : Option ℕ) → slot_at w h fd ≡ o → above.double_at h w (slot_at w h fd) (entry_of w h fd) ≡ above.double_at h w o (entry_at w.files o)
    upper o e = ap (λ (z : Option ℕ). above.double_at h w z (entry_at w.files z)) e

    shown : (s : ℕ) (n : Names h fd s w) → has_room (w.desks h).fds ≡ true → Shows (with_desk h (with_descriptor (lowest (w.desks h).fds) (Some s)) t) (above.doubled h w s n.entry (lowest (w.desks h).fds)) load
    shown s n room = record {
      sound = record { inodes = shows.sound.inodes; files = shows.sound.files; desks = long_desks h t w load shows runs (with_descriptor (lowest (w.desks h).fds) (Some s)) };
      places = shows.places;
      files = files_counted h fd s (n.entry.references + 1) None t w load shows n (record (w.desks h) { fds = put (w.desks h).fds (lowest (w.desks h).fds) (Some s) }) refl;
      desks = desk_set h t w load shows runs (with_descriptor (lowest (w.desks h).fds) (Some s)) (record (w.desks h) { fds = put (w.desks h).fds (lowest (w.desks h).fds) (Some s) }) runs.free (λ i. refl)
          (λ d c. card_named d (w.desks h).fds (w.desks h).directory (w.desks h).hand (lowest (w.desks h).fds) (Some s) c (below_is (lowest (w.desks h).fds) descriptor_count room));
      lenders = lenders_set w.desks h (record (w.desks h) { fds = put (w.desks h).fds (lowest (w.desks h).fds) (Some s) }) refl shows.lenders;
      range = shows.range;
    }

    by_room : (s : ℕ) → slot_at w h fd ≡ Some s → (n : Names h fd s w) → (b : Bool) → has_room (w.desks h).fds ≡ b → BothCame (λ a b. a ≡ doubled_as b) (λ a. load) (double_at h t (place_named h fd t)) (above.double_at h w (slot_at w h fd) (entry_of w h fd))
    by_room s e n true q =
        both_ran (λ a b. a ≡ doubled_as b) (λ a. load) (double_at h t (place_named h fd t)) (above.double_at h w (slot_at w h fd) (entry_of w h fd)) (doubled.Gave (lowest (w.desks h).fds)) (Some (Some (lowest (w.desks h).fds)))
        (with_desk h (with_descriptor (lowest (w.desks h).fds) (Some s)) t) (above.doubled h w s n.entry (lowest (w.desks h).fds))
        (lower (Some s) e ∙ ap (double_to h s t) (empty_is h t w load shows runs ∙ ap (λ (c : Bool). if c then Some (lowest (w.desks h).fds) else None) q))
        (upper (Some s) e ∙ ap (above.double_at h w (Some s)) n.at ∙ ap (double_if h w s n.entry) q) refl (shown s n q)
    by_room s e n false q =
        both_ran (λ a b. a ≡ doubled_as b) (λ a. load) (double_at h t (place_named h fd t)) (above.double_at h w (slot_at w h fd) (entry_of w h fd)) doubled.Full (Some None) t w
        (lower (Some s) e ∙ ap (double_to h s t) (empty_is h t w load shows runs ∙ ap (λ (c : Bool). if c then Some (lowest (w.desks h).fds) else None) q))
        (upper (Some s) e ∙ ap (above.double_at h w (Some s)) n.at ∙ ap (double_if h w s n.entry) q) refl shows

    at : (o : Option ℕ) → slot_at w h fd ≡ o → BothCame (λ a b. a ≡ doubled_as b) (λ a. load) (double_at h t (place_named h fd t)) (above.double_at h w (slot_at w h fd) (entry_of w h fd))
    at None e = both_ran (λ a b. a ≡ doubled_as b) (λ a. load) (double_at h t (place_named h fd t)) (above.double_at h w (slot_at w h fd) (entry_of w h fd)) doubled.BadDescriptor None t w (lower None e) (upper None e) refl shows
    at (Some s) e = by_room s e (names_at h fd s w inv runs.below e) (has_room (w.desks h).fds) refl

-- ---- the directory

pub directories_are_settled : DirectoriesAreSettled
unfolding settle_inode
directories_are_settled version h v t w load shows runs mine = at (w.alone v.number)
  where
    given : Shows (unlock_inode h v None t) (record w { lock = put w.lock v.number None }) (put load v.number v.content)
    given = locks_are_given h v t w load shows mine

    still : Runs h (record w { lock = put w.lock v.number None })
    still = record { below = runs.below; free = runs.free }

    settled_to : (b : Bool) → Shows (with_desk h (with_directory v.number) (unlock_inode h v None t)) (above.with_directory (unlocked v.number w b) h v.number) (put load v.number v.content)
    settled_to b = by b
      where
        sound : IsSoundTables (with_desk h (with_directory v.number) (unlock_inode h v None t))
        sound = record { inodes = given.sound.inodes; files = given.sound.files; desks = long_desks h (unlock_inode h v None t) (record w { lock = put w.lock v.number None }) (put load v.number v.content) given still (with_directory v.number) }

        files : FilesShow (unlock_inode h v None t).files w.files (put w.desks h (record (w.desks h) { directory = v.number; left = None }))
        files j lt = given.files j lt ∙ ap (λ (c : Bool). Some (place_with c (w.files j))) (sym (taken_same w.desks h (record (w.desks h) { directory = v.number; left = None }) j refl))

        desks : DesksShow (with_desk h (with_directory v.number) (unlock_inode h v None t)).desks (put w.desks h (record (w.desks h) { directory = v.number; left = None }))
        desks = desk_set h (unlock_inode h v None t) (record w { lock = put w.lock v.number None }) (put load v.number v.content) given still (with_directory v.number) (record (w.desks h) { directory = v.number; left = None }) runs.free (λ i. refl)
            (λ d c. record { long = c.long; descriptors = c.descriptors; directory = refl; hand = c.hand })

        by : (b : Bool) → Shows (with_desk h (with_directory v.number) (unlock_inode h v None t)) (above.with_directory (unlocked v.number w b) h v.number) (put load v.number v.content)
        by true = record { sound = sound; places = given.places; files = files; desks = desks; lenders = lenders_set w.desks h (record (w.desks h) { directory = v.number; left = None }) refl given.lenders; range = given.range }
        by false = record { sound = sound; places = given.places; files = files; desks = desks; lenders = lenders_set w.desks h (record (w.desks h) { directory = v.number; left = None }) refl given.lenders; range = given.range }

    answer : directory_of (slice_get (unlock_inode h v None t).desks h) ≡ (w.desks h).directory
    answer = let o = own_desk h (unlock_inode h v None t) (record w { lock = put w.lock v.number None }) (put load v.number v.content) given still in ap directory_of o.1 ∙ o.2.directory

    at : (b : Bool) → BothCame (λ a b. a ≡ b) (λ a. put load v.number v.content) (settled h v.number (unlock_inode h v None t)) (Ran (w.desks h).directory (above.with_directory (unlocked v.number w b) h v.number))
    at b = (answer, settled_to b)

-- ---- the lock of what is named

-- it has a reference
pub file_referred : (h fd : ℕ) (w : World) (f : Entry) → Inv w → h < hart_count → entry_of w h fd ≡ Some f → 0 < w.refs f.file.number
file_referred h fd w f inv lt e = by_slot (slot_at w h fd) refl
  where
    by_slot : (o : Option ℕ) → slot_at w h fd ≡ o → 0 < w.refs f.file.number
    by_slot None q = absurd (none-some f (sym (ap (entry_at w.files) q) ∙ e))
    by_slot (Some s) q =
        let m = names_at h fd s w inv lt q in
        let there : w.files s ≡ Some f = sym (ap (entry_at w.files) q) ∙ e in
        let a = opens_slots w h f.file.number inv (record { fd = fd; below = m.below; slot = s; is = m.is; entry = f; at = there; number = refl }) in
        let c = inv.counts f.file.number in
        omega (arith, a, c)

pub files_are_locked : FilesAreLocked
unfolding lock_file
files_are_locked version h fd t w load shows inv runs = at (entry_of w h fd) refl
  where
    at : (o : Option Entry) → entry_of w h fd ≡ o → BothCame (λ a b. FitsStat load (entry_of w h fd) a) (load_locked load) (lock_unless h t (file_named h fd t) (refusal_of want.Stat (file_named h fd t))) (above.stat_at version h w (entry_of w h fd))
    at None e =
        both_ran (λ a b. FitsStat load (entry_of w h fd) a) (load_locked load) (lock_unless h t (file_named h fd t) (refusal_of want.Stat (file_named h fd t))) (above.stat_at version h w (entry_of w h fd)) (Refuses refused.BadDescriptor) None t w
        (ap (λ (z : Option tables.OpenFile). lock_unless h t z (refusal_of want.Stat z)) (file_is h fd t w load shows inv runs ∙ ap (option_map file_of) e))
        (ap (above.stat_at version h w) e) (subst (λ (z : Option Entry). FitsStat load z (Refuses refused.BadDescriptor)) (sym e) refl) shows
    at (Some f) e =
        let n = f.file.number in
        let p = place_there n t w load shows (file_referred h fd w f inv runs.below e) in
        let lower : lock_unless h t (file_named h fd t) (refusal_of want.Stat (file_named h fd t)) ≡ with_file (file_of f) (lock_inode h n t) = ap (λ (z : Option tables.OpenFile). lock_unless h t z (refusal_of want.Stat z)) (file_is h fd t w load shows inv runs ∙ ap (option_map file_of) e) in
        by_lock h n p.0 t w load shows p.1 _
        (λ waits g out. both_wait _ _ _ _ (lower ∙ ap (with_file (file_of f)) waits) (ap (above.stat_at version h w) e ∙ ap (lock_if h n (Some (n, face_or (face_of version (w.disk n)))) w (locked h n w)) out))
        (λ u ran free after. both_ran _ _ _ _ (Locks (file_of f) (load n)) (Some (n, face_or (face_of version (w.disk n)))) u (locked h n w) (lower ∙ ap (with_file (file_of f)) ran) (ap (above.stat_at version h w) e ∙ ap (lock_if h n (Some (n, face_or (face_of version (w.disk n)))) w (locked h n w)) free)
        (subst (λ (z : Option Entry). FitsStat load z (Locks (file_of f) (load n))) (sym e) refl) after)

pub files_are_locked_to_read : FilesAreLockedToRead
unfolding lock_file
files_are_locked_to_read version h fd t w load shows inv runs = at (entry_of w h fd) refl
  where
    Fits : Option Entry → LockedState → LockResult → Type 0
    Fits o = FitsRead load o (read_refused o)

    both : (o : Option Entry) → Type 0
    both o = BothCame (Fits o) (load_locked load) (lock_unless h t (option_map file_of o) (refusal_of want.Read (option_map file_of o))) (above.lock_at h w o (read_refused o))

    by_cause : (o : Option Entry) → entry_of w h fd ≡ o → (r : Option Cause) → read_refused o ≡ r → both o
    by_cause o e (Some why) r =
        both_ran (Fits o) (load_locked load) _ _ (Refuses (refused_as why)) (NotLocked why) t w
        (ap (lock_unless h t (option_map file_of o)) (reads_alike o ∙ ap (option_map refused_as) r)) (ap (above.lock_at h w o) r) (subst (λ (z : Option Cause). FitsRead load o z (Refuses (refused_as why)) (NotLocked why)) (sym r) (refl, refl)) shows
    by_cause None e None r = absurd (none-some _ (sym r))
    by_cause (Some f) e None r =
        let n = f.file.number in
        let some = file_referred h fd w f inv runs.below e in
        let p = place_there n t w load shows some in
        let lower : lock_unless h t (Some (file_of f)) (refusal_of want.Read (Some (file_of f))) ≡ with_file (file_of f) (lock_inode h n t) = ap (lock_unless h t (Some (file_of f))) (reads_alike (Some f) ∙ ap (option_map refused_as) r) in
        by_lock h n p.0 t w load shows p.1 _
        (λ waits g out. both_wait (Fits (Some f)) (load_locked load) _ _ (lower ∙ ap (with_file (file_of f)) waits) (ap (above.lock_at h w (Some f)) r ∙ ap (lock_if h n (LocksIt n f.file.offset) w (locked h n w)) out))
        (λ u ran free after.
        both_ran (Fits (Some f)) (load_locked load) _ _ (Locks (file_of f) (load n)) (LocksIt n f.file.offset) u (locked h n w) (lower ∙ ap (with_file (file_of f)) ran) (ap (above.lock_at h w (Some f)) r ∙ ap (lock_if h n (LocksIt n f.file.offset) w (locked h n w)) free)
        (subst (λ (z : Option Cause). FitsRead load (Some f) z (Locks (file_of f) (load n)) (LocksIt n f.file.offset)) (sym r) (refl, refl)) after)

    at : (o : Option Entry) → entry_of w h fd ≡ o → BothCame (Fits (entry_of w h fd)) (load_locked load) (lock_unless h t (file_named h fd t) (refusal_of want.Read (file_named h fd t))) (above.lock_at h w (entry_of w h fd) (read_refused (entry_of w h fd)))
    at o e =
        subst (λ (z : Option tables.OpenFile). BothCame (Fits (entry_of w h fd)) (load_locked load) (lock_unless h t z (refusal_of want.Read z)) (above.lock_at h w (entry_of w h fd) (read_refused (entry_of w h fd)))) (sym (file_is h fd t w load shows inv runs))
        (by_cause (entry_of w h fd) refl (read_refused (entry_of w h fd)) refl)

-- ---- the offset of what is named

pub offsets_are_moved : OffsetsAreMoved
unfolding unlock_inode
offsets_are_moved h fd by e v t w load shows inv runs mine is = by_slot (slot_at w h fd) refl
  where
    by_slot : (o : Option ℕ) → slot_at w h fd ≡ o → Shows (unlocked_in v (tables_offset h (Some (fd, e.file.offset + by)) t)) (with_offset (record w { lock = put w.lock v.number None }) o e by) (put load v.number v.content)
    by_slot None q = absurd (none-some e (sym (ap (entry_at w.files) q) ∙ is))
    by_slot (Some s) q =
        subst (λ (l : List FilePlace). Shows (unlocked_in v (record t { files = l })) (record w { files = put w.files s (Some (entry_moved e by)); lock = put w.lock v.number None }) (put load v.number v.content)) (sym places)
        (locks_are_given h v then_ (record w { files = put w.files s (Some (entry_moved e by)) }) load moved mine)
      where
        n : Names h fd s w
        n = names_at h fd s w inv runs.below q

        there : w.files s ≡ Some e
        there = sym (ap (entry_at w.files) q) ∙ is

        p : FilePlace
        p = Open (file_of (entry_moved e by))

        then_ : TablesState
        then_ = record t { files = slice_set t.files s p }

        places : moved_at (e.file.offset + by) t.files (file_named h fd t) (place_named h fd t) ≡ slice_set t.files s p
        places = (λ z. moved_at (e.file.offset + by) t.files ((file_is h fd t w load shows inv runs ∙ ap (option_map file_of) is) z) ((named_is h fd t w load shows runs ∙ q) z))

        moved : Shows then_ (record w { files = put w.files s (Some (entry_moved e by)) }) load
        moved = record {
          sound = record { inodes = shows.sound.inodes; files = long_files h t w load shows runs s p; desks = shows.sound.desks };
          places = shows.places;
          files = files_set t.files w.files (put w.files s (Some (entry_moved e by))) w.desks w.desks s p shows.files (sym (ap (place_with (is_taken w.desks s)) (put_same w.files s (Some (entry_moved e by)))))
              (λ j ne. (put_other w.files s (Some (entry_moved e by)) j ne, refl));
          desks = shows.desks;
          lenders = shows.lenders;
          range = shows.range;
        }
