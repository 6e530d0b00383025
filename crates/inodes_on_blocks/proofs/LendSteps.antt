-- What a hart hands on to the child that it serves, and the child let go, each at its one step.
use Rattle.inode_machine.specs.Exec as above_exec
use Rattle.inode_machine.specs.Rules as rules
use Rattle.inodes_on_blocks.proofs.Vocabulary.{◌≡◌, ◌≢◌, inl, inr, ℕ, ◌+◌, ◌<◌, ◌≤◌, nat_lt, Bool, true, false, Option, Some, None, refl, sym, ◌∙◌, ap, subst, arith, nat_tests, none-some, same_Some, put, hart_count, descriptor_count, largest_size, same_or, put_other, put_same, ExecResult, Waits, Ran, Laws, Both, Given, next_full, give_next, descriptors_of, Desk, LoanResult, Lent, Moved, Entry, Lend, LendDirectory, Release, next_used, with_lent, handed, moved_in, lend_last, lend_if, released, serving, more_users, slot_or, Inv, Serves, one_refs, next_is, next_past, loaded, descriptor, first, lent_by, given_as, World, tables_of, Shows, Labels, labelled, Keeps, lent_to, old_directory, lend, lend_directory, release, ActsOnceAt, Super}
use Rattle.fs_machine.specs.declared.desk.Desk as cards
use Rattle.fs_machine.specs.declared.slots.Given.TheVariants as given
use Rattle.fs_machine.specs.Steps as steps
use Rattle.fs_machine.specs.Premises as premises
use Rattle.inode_machine.specs.World as above
use Rattle.inode_machine.specs.Rules.{Has}
use Rattle.inodes_on_blocks.proofs.Basics.{part_same, CameTo, one_step, open_alike, open_put, open_twice}
use Rattle.inodes_on_blocks.proofs.Gives.{next_full_is, descriptors_are_given, directories_are_given, children_are_released}
use Rattle.inodes_on_blocks.proofs.SlotSteps.{SameInodes, offsets_put, ran_same, no_wait, in_tables_is, came_quiet, from_both, runs_here}
use Rattle.inodes_on_blocks.proofs.CountSteps.{may_up_directory}

-- ---- the inodes stay

-- two desks changed, but not in this part
part_both : {X : Type 0} (part : Desk → X) (desks : ℕ → Desk) (h c : ℕ) (mine his : Desk) (j : ℕ) → part mine ≡ part (desks h) → part his ≡ part (desks c) → part (put (put desks h mine) c his j) ≡ part (desks j)
part_both part desks h c mine his j a b = part_same part (put desks h mine) c his j (b ∙ sym (part_same part desks h mine c a)) ∙ part_same part desks h mine j a

-- in the lender's own one
part_mine : {X : Type 0} (part : Desk → X) (desks : ℕ → Desk) (h c : ℕ) (mine his : Desk) → c ≢ h → part mine ≡ part (desks h) → part (put (put desks h mine) c his h) ≡ part (desks h)
part_mine part desks h c mine his apart a = ap part (put_other (put desks h mine) c his h (λ e. apart (sym e))) ∙ part_same part desks h mine h a

-- the child isn't its lender
child_apart : (h child : ℕ) (w : above.World) → (w.desks h).lender ≡ None → (w.desks child).lender ≡ Some h → child ≢ h
child_apart h child w free served e = none-some h (sym free ∙ ap (λ (z : ℕ). (w.desks z).lender) (sym e) ∙ served)

released_same : (h child : ℕ) (w : above.World) → child ≢ h → SameInodes h w (released w h child)
released_same h child w apart = record {
  disk = refl;
  lock = refl;
  refs = λ n some. some;
  keeper = refl;
  size = refl;
  joined = λ j. part_both (λ d. d.joined) w.desks h child (record (w.desks h) { lent = λ i. None }) (record (w.desks child) { lender = None }) j refl refl;
  lender = part_mine (λ d. d.lender) w.desks h child (record (w.desks h) { lent = λ i. None }) (record (w.desks child) { lender = None }) apart refl;
  opens = λ i mine. open_alike h i w (released w h child) (part_mine (λ d. d.fds) w.desks h child (record (w.desks h) { lent = λ i. None }) (record (w.desks child) { lender = None }) apart refl) refl;
  offsets = λ old. old;
}

-- one more user leaves the files
more_same : (s : ℕ) (files : ℕ → Option Entry) (k : ℕ) (e : Entry) → files k ≡ Some e → (f : Entry) × (put files s (more_users (files s)) k ≡ Some f) × (f.file ≡ e.file)
more_same s files k e at = elim (same_or k s) [
  | inl q ↦ (record { file = e.file; inode_type = e.inode_type; references = e.references + 1 }, ap (put files s (more_users (files s))) q ∙ put_same files s (more_users (files s)) ∙ ap more_users (ap files (sym q) ∙ at), refl)
  | inr ne ↦ (e, put_other files s (more_users (files s)) k ne ∙ at, refl)
]

-- and its offset is as it was
more_offset : (o : Option Entry) (e : Entry) → more_users o ≡ Some e → ((d : Entry) → o ≡ Some d → d.file.offset ≤ largest_size) → e.file.offset ≤ largest_size
more_offset None e is old = absurd (none-some e is)
more_offset (Some d) e is old = subst (λ (x : Entry). x.file.offset ≤ largest_size) (same_Some _ e is) (old d refl)

lent_same : (h i : ℕ) (w : above.World) → SameInodes h w (with_lent w h i)
lent_same h i w = record {
  disk = refl;
  lock = refl;
  refs = λ n some. some;
  keeper = refl;
  size = refl;
  joined = λ j. part_same (λ d. d.joined) w.desks h (record (w.desks h) { lent = put (w.desks h).lent i ((w.desks h).fds i) }) j refl;
  lender = part_same (λ d. d.lender) w.desks h (record (w.desks h) { lent = put (w.desks h).lent i ((w.desks h).fds i) }) h refl;
  opens = λ j mine. open_put h j w (with_lent w h i) (record (w.desks h) { lent = put (w.desks h).lent i ((w.desks h).fds i) }) refl (λ fd k e. e) (more_same (slot_or ((w.desks h).fds i)) w.files);
  offsets = λ old. offsets_put w.files (slot_or ((w.desks h).fds i)) (more_users (w.files (slot_or ((w.desks h).fds i)))) (λ e is. more_offset (w.files (slot_or ((w.desks h).fds i))) e is (old (slot_or ((w.desks h).fds i)))) old;
}

handed_same : (h child : ℕ) (w : above.World) → child ≢ h → SameInodes h w (handed w h child)
handed_same h child w apart = record {
  disk = refl;
  lock = refl;
  refs = λ n some. some;
  keeper = refl;
  size = refl;
  joined = λ j. part_both (λ d. d.joined) w.desks h child (record (w.desks h) { lent = serving child (Some 0) }) (record (w.desks child) { fds = put (w.desks h).lent descriptor_count None }) j refl refl;
  lender = part_both (λ d. d.lender) w.desks h child (record (w.desks h) { lent = serving child (Some 0) }) (record (w.desks child) { fds = put (w.desks h).lent descriptor_count None }) h refl refl;
  opens = λ i mine. open_alike h i w (handed w h child) (part_mine (λ d. d.fds) w.desks h child (record (w.desks h) { lent = serving child (Some 0) }) (record (w.desks child) { fds = put (w.desks h).lent descriptor_count None }) apart refl) refl;
  offsets = λ old. old;
}

-- one reference more to a directory that has one
moved_same : (h child : ℕ) (w : above.World) → Inv w → h < hart_count → SameInodes h w (moved_in w h child)
moved_same h child w inv lt = record {
  disk = refl;
  lock = refl;
  refs = λ n some. elim (same_or n (w.desks h).directory) [
    | inl e ↦ subst (λ (k : ℕ). 0 < w.refs k) (sym e) referred
    | inr ne ↦ subst (λ (k : ℕ). 0 < k) (put_other w.refs (w.desks h).directory (w.refs (w.desks h).directory + 1) n ne) some
  ];
  keeper = refl;
  size = refl;
  joined = λ j. part_both (λ d. d.joined) w.desks h child (record (w.desks h) { lent = serving child (Some 1) }) (record (w.desks child) { directory = (w.desks h).directory; left = None }) j refl refl;
  lender = part_both (λ d. d.lender) w.desks h child (record (w.desks h) { lent = serving child (Some 1) }) (record (w.desks child) { directory = (w.desks h).directory; left = None }) h refl refl;
  opens = λ i mine. open_alike h i w (moved_in w h child) (part_both (λ d. d.fds) w.desks h child (record (w.desks h) { lent = serving child (Some 1) }) (record (w.desks child) { directory = (w.desks h).directory; left = None }) h refl refl) refl;
  offsets = λ old. old;
}
  where
    referred : 0 < w.refs (w.desks h).directory
    referred = let a = one_refs w h (w.desks h).directory inv lt in let b = (inv.refers h lt).home in omega (arith, a, b)

same_then : (h : ℕ) (g v u : above.World) → SameInodes h g v → SameInodes h v u → SameInodes h g u
same_then h g v u a b = record {
  disk = b.disk ∙ a.disk;
  lock = b.lock ∙ a.lock;
  refs = λ n some. a.refs n (b.refs n some);
  keeper = b.keeper ∙ a.keeper;
  size = b.size ∙ a.size;
  joined = λ j. b.joined j ∙ a.joined j;
  lender = b.lender ∙ a.lender;
  opens = λ i mine. open_twice h i g v u (a.opens i mine) (b.opens i ((λ z. a.lock z i) ∙ mine));
  offsets = λ old. b.offsets (a.offsets old);
}

last_same : (h child i : ℕ) (w : above.World) (o : Option ℕ) → child ≢ h → SameInodes h w (lend_last (with_lent w h i) h child o)
last_same h child i w None apart = same_then h w (with_lent w h i) (handed (with_lent w h i) h child) (lent_same h i w) (handed_same h child (with_lent w h i) apart)
last_same h child i w (Some j) apart = lent_same h i w

lend_same : (h child : ℕ) (w : above.World) (o : Option ℕ) (b : LoanResult) (u : above.World) → Inv w → h < hart_count → child ≢ h → lend_if h w child o ≡ Ran b u → SameInodes h w u
lend_same h child w None b u inv lt apart e = ran_same h w (moved_in w h child) u (Moved (w.desks child).directory) b e (moved_same h child w inv lt)
lend_same h child w (Some i) b u inv lt apart e =
    ran_same h w (lend_last (with_lent w h i) h child (next_used (i + 1) (w.desks h).fds)) u _ b e (last_same h child i w (next_used (i + 1) (w.desks h).fds) apart)

lend_runs : (h child : ℕ) (w : above.World) (o : Option ℕ) → lend_if h w child o ≡ Waits → ⊥
lend_runs h child w None e = no_wait _ _ e
lend_runs h child w (Some i) e = no_wait _ _ e

lent_back : (b : LoanResult) → lent_to (given_as b) ≡ b
lent_back (Lent fd more) = refl
lent_back (Moved n) = refl

-- ---- which descriptors the child has

is_over : (a b : ℕ) → nat_lt a b ≡ true → a < b
is_over a b e = grind (arith, nat_tests)

not_over : (a b : ℕ) → nat_lt a b ≡ false → b ≤ a
not_over a b e = grind (arith, nat_tests)

-- if a hart that has no descriptor from here on starts at the first, it starts at one
starts_below : (from : ℕ) (fds : ℕ → Option ℕ) → (next_used from fds ≡ None → from ≡ 0) → from ≤ descriptor_count
starts_below from fds first_ = by (nat_lt descriptor_count from) refl
  where
    by : (b : Bool) → nat_lt descriptor_count from ≡ b → from ≤ descriptor_count
    by true e = let over = is_over descriptor_count from e in let z = first_ (next_past from fds (omega (arith, over))) in absurd (omega (arith, over, z))
    by false e = not_over descriptor_count from e

none_used : (from : ℕ) (fds : ℕ → Option ℕ) → from ≤ descriptor_count → ((i : ℕ) → from ≤ i → i < descriptor_count → fds i ≡ None) → next_used from fds ≡ None
none_used from fds le none = by (next_used from fds) refl
  where
    by : (o : Option ℕ) → next_used from fds ≡ o → next_used from fds ≡ None
    by None e = e
    by (Some i) e = let x = next_is from i fds le e in absurd (none-some x.slot (sym (none i x.above x.below) ∙ x.is))

module _ (sizes : Super) (l : Labels) (laws : Laws (labelled sizes.version l)) (keeps : Keeps l) (h : ℕ) (lt : h < hart_count) where
  abbrev W : Type 0
  W = Both World above.World

  -- ---- the child let go

  pub release_acts : (child : ℕ) (m : Unit {0} → Option above.Mark) → ActsOnceAt sizes l h (Release child) m (release child)
  unfolding steps.exec premises.May
  release_acts child m =
      one_step sizes l laws keeps h (Release child) m (λ c. steps.Reply) (λ c a. a) (λ c a. c) (λ v. tt)
      (λ v c shows inv base may. (
        tt,
        λ x t.
            came_quiet sizes l laws keeps h lt (Release child) v tt (tables_of v.real) (released v.seen h child) c shows base may.0 refl
            (children_are_released sizes.version h child (tables_of v.real) v.seen (loaded (tables_of v.real)) shows.tables inv (runs_here sizes l laws keeps h lt v may.0) may.1)
            (released_same h child v.seen (child_apart h child v.seen may.0 may.1.0.1)),
      ))

  -- ---- what is handed on

  may_give : (child from : ℕ) (v : W) → Shows v.real v.seen → Inv v.seen → (v.seen.desks h).lender ≡ None → Serves h child v.seen → from ≤ descriptor_count
      → ((i : ℕ) → from ≤ i → i < descriptor_count → descriptor v.seen.desks child i ≡ None) → premises.MayGive h child from (tables_of v.real)
  may_give child from v shows inv free serves le none =
      let d = shows.tables.desks child serves.0 in (
        lt,
        serves.0,
        child_apart h child v.seen free serves.1,
        ap (λ (o : Option cards.Desk). next_full from (descriptors_of o)) d.1 ∙ next_full_is from (descriptor v.seen.desks child) d.0.descriptors le d.2.long d.2.descriptors ∙ none_used from (descriptor v.seen.desks child) le none,
        may_up_directory sizes l laws keeps h lt v shows inv,
      )

  pub lend_directory_acts : (child : ℕ) (m : ℕ → Option above.Mark) → ActsOnceAt sizes l h (LendDirectory child) m (lend_directory child)
  unfolding steps.exec premises.May premises.MayWait
  lend_directory_acts child m =
      one_step sizes l laws keeps h (LendDirectory child) m (λ c. steps.GiveDescriptor child descriptor_count) (λ c. old_directory) (λ c a. c) (λ v. tt)
      (λ v c shows inv base may. (
        may_give child descriptor_count v shows inv may.0 may.1.0 (omega arith) (λ i low below. absurd (omega (arith, low, below))),
        λ x t.
            subst (λ (d : ExecResult Given World). CameTo sizes l laws keeps h (LendDirectory child) v ⊥ d old_directory (λ a. c)) (sym (in_tables_is h (steps.GiveDescriptor child descriptor_count) v.real (λ a o. refl) (λ s. refl) (λ a l. refl) (give_next h child descriptor_count (tables_of v.real))))
            (from_both sizes l laws keeps h lt (LendDirectory child) v ⊥ old_directory (λ a b. a ≡ given.Directory b) c (give_next h child descriptor_count (tables_of v.real)) (above_exec.exec sizes.version h above.Room (LendDirectory child) v.seen) refl
            (directories_are_given sizes.version h child (tables_of v.real) v.seen (loaded (tables_of v.real)) shows.tables inv (runs_here sizes l laws keeps h lt v may.0) may.1)
            (λ e. no_wait _ _ e) (λ a b e. ap old_directory e) (λ b u e. ran_same h v.seen (moved_in v.seen h child) u (v.seen.desks child).directory b e (moved_same h child v.seen inv lt)) shows base may.0),
      ))

  -- from here on the child has none, of its own or on its way
  child_none : (child from : ℕ) (w : above.World) → Inv w → rules.Asks sizes.version h (Lend child from) w → (i : ℕ) → from ≤ i → i < descriptor_count → descriptor w.desks child i ≡ None
  child_none child from w inv asks i low below =
      let has = subst (λ (z : Option ℕ). Has z (w.desks child).fds (w.all.cwd child) (w.desks child).directory (w.desks h).directory) asks.1 (inv.lent child h asks.0.0 asks.0.1).has in
      (λ z. first (has.0 i below z) (lent_by w.desks (asks.0.1 z) i)) ∙ asks.2 i low below

  pub lend_acts : (child from : ℕ) (m : LoanResult → Option above.Mark) → ActsOnceAt sizes l h (Lend child from) m (lend child from)
  unfolding steps.exec premises.May premises.MayWait
  lend_acts child from m =
      one_step sizes l laws keeps h (Lend child from) m (λ c. steps.GiveDescriptor child from) (λ c. lent_to) (λ c a. c) (λ v. tt)
      (λ v c shows inv base may.
      let le = starts_below from (v.seen.desks h).fds may.1.3 in (
        may_give child from v shows inv may.0 may.1.0 le (child_none child from v.seen inv may.1),
        λ x t.
            subst (λ (d : ExecResult Given World). CameTo sizes l laws keeps h (Lend child from) v ⊥ d lent_to (λ a. c)) (sym (in_tables_is h (steps.GiveDescriptor child from) v.real (λ a o. refl) (λ s. refl) (λ a l. refl) (give_next h child from (tables_of v.real))))
            (from_both sizes l laws keeps h lt (Lend child from) v ⊥ lent_to (λ a b. a ≡ given_as b) c (give_next h child from (tables_of v.real)) (above_exec.exec sizes.version h above.Room (Lend child from) v.seen) refl
            (descriptors_are_given sizes.version h child from (tables_of v.real) v.seen (loaded (tables_of v.real)) shows.tables inv (runs_here sizes l laws keeps h lt v may.0) may.1 le)
            (lend_runs h child v.seen (next_used from (v.seen.desks h).fds)) (λ a b e. ap lent_to e ∙ lent_back b) (λ b u e. lend_same h child v.seen (next_used from (v.seen.desks h).fds) b u inv lt (child_apart h child v.seen may.0 may.1.0.1) e) shows base may.0),
      ))
