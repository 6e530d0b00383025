-- A start that reserves a child: what the tables and the blocks show of it, and what it finds.
use Rattle.calls_on_blocks.proofs.Vocabulary.{◌≡◌, ◌≢◌, inl, inr, ℕ, ◌<◌, Bool, true, false, ◌&&◌, not, nat_lt, List, Option, Some, None, refl, sym, ◌∙◌, ap, subst, arith, if◌then◌else◌, is_some, option_map, nat_tests, none-some, same_Some, Loaded, put, hart_count, descriptor_count, same_or, put_same, put_other, any_none, none_any, any_same, eq_self, TablesState, file_named, entry_at, entry_of, is_at, is_nothing, serving, Idle, Inv, has_descriptor, serving_world, Desk, Entry, serving_none, DesksShow, descriptor, file_of, is_taken, lent_by, loaded, place_with, part_same, descriptors_name_files, Blocks, tables_of, Shows, shows_then, Reserves, has_file, reserved}
use Rattle.fs_machine.specs.declared.desk.Desk as cards
use Rattle.inode_machine.specs.World as above
use Rattle.inodes_on_blocks.specs.Lowering.{ShowsStopped}
use Rattle.inodes_on_blocks.specs.ShownTables as tables
use Rattle.inodes_on_blocks.specs.ShownTables.{first}

-- ---- a child is reserved

module _ (h c : ℕ) (w : above.World) (lt : h < hart_count) (apart : c ≢ h) (idle : Idle h w) (unlent : (w.desks c).lender ≡ None) where
  abbrev mine : Desk
  mine = record (w.desks h) { lent = serving c None }

  abbrev his : Desk
  his = record (w.desks c) { lender = Some h }

  abbrev D : ℕ → Desk
  D = put (put w.desks h mine) c his

  -- two desks changed, but not in this part
  pub part : {A : Type 0} (f : Desk → A) (g : ℕ) → f mine ≡ f (w.desks h) → f his ≡ f (w.desks c) → f (D g) ≡ f (w.desks g)
  part f g a b = part_same f (put w.desks h mine) c his g (b ∙ sym (part_same f w.desks h mine c a)) ∙ part_same f w.desks h mine g a

  lent_none : (i : ℕ) → (w.desks h).lent i ≡ None
  lent_none i = ap (λ (f : ℕ → Option ℕ). f i) idle.lent

  lent_same : (k i : ℕ) → i < descriptor_count → (D k).lent i ≡ (w.desks k).lent i
  lent_same k i li = part (λ d. d.lent i) k (serving_none c None i li ∙ sym (lent_none i)) refl

  by_same : (o : Option ℕ) (i : ℕ) → i < descriptor_count → lent_by D o i ≡ lent_by w.desks o i
  by_same None i li = refl
  by_same (Some k) i li = lent_same k i li

  pub lender_there : (D c).lender ≡ Some h
  lender_there = ap (λ (d : Desk). d.lender) (put_same (put w.desks h mine) c his)

  pub lender_other : (g : ℕ) → g ≢ c → (D g).lender ≡ (w.desks g).lender
  lender_other g ne = ap (λ (d : Desk). d.lender) (put_other (put w.desks h mine) c his g ne) ∙ part_same (λ d. d.lender) w.desks h mine g refl

  -- nothing is on its way to any hart that wasn't
  on_way : (g i : ℕ) → i < descriptor_count → lent_by D (D g).lender i ≡ lent_by w.desks (w.desks g).lender i
  on_way g i li = elim (same_or g c) [
    | inl e ↦ ap (λ (o : Option ℕ). lent_by D o i) (ap (λ (z : ℕ). (D z).lender) e ∙ lender_there) ∙ lent_same h i li ∙ lent_none i ∙ sym (ap (λ (o : Option ℕ). lent_by w.desks o i) (ap (λ (z : ℕ). (w.desks z).lender) e ∙ unlent))
    | inr ne ↦ ap (λ (o : Option ℕ). lent_by D o i) (lender_other g ne) ∙ by_same (w.desks g).lender i li
  ]

  descriptor_same : (g i : ℕ) → i < descriptor_count → descriptor D g i ≡ descriptor w.desks g i
  descriptor_same g i li = ap (λ (f : ℕ → Option ℕ). first (f i) (lent_by D (D g).lender i)) (part (λ d. d.fds) g refl refl) ∙ ap (first ((w.desks g).fds i)) (on_way g i li)

  taken_same : (k : ℕ) → is_taken D k ≡ is_taken w.desks k
  taken_same k = any_same hart_count _ _ (λ g lg. part (λ d. is_at d.hand k) g refl refl)

  desks_same : (list : List cards.Desk) → DesksShow list w.desks → DesksShow list D
  desks_same list shows g lg =
      let was = shows g lg in (
        was.0,
        was.1,
        record {
          long = was.2.long;
          descriptors = λ i li. was.2.descriptors i li ∙ ap (λ (o : Option ℕ). Some o) (sym (descriptor_same g i li));
          directory = was.2.directory ∙ sym (part (λ d. d.directory) g refl refl);
          hand = was.2.hand ∙ sym (part (λ d. d.hand) g refl refl);
        },
      )

  -- the tables show it as they are
  pub tables_reserved : (t : TablesState) (load : ℕ → Option Loaded) → tables.Shows t w load → tables.Shows t (serving_world w h c) load
  tables_reserved t load shows = record {
    sound = shows.sound;
    places = shows.places;
    files = λ k lk. shows.files k lk ∙ ap (λ (b : Bool). Some (place_with b (w.files k))) (sym (taken_same k));
    desks = desks_same t.desks shows.desks;
    lenders = λ g l e. elim (same_or g c) [
      | inl q ↦ subst (λ (z : ℕ). z < hart_count) (same_Some h l (sym lender_there ∙ ap (λ (z : ℕ). (D z).lender) (sym q) ∙ e)) lt
      | inr ne ↦ shows.lenders g l (sym (lender_other g ne) ∙ e)
    ];
    range = shows.range;
  }

  -- and so do the blocks
  pub blocks_reserved : (r : Blocks) → Shows r w → Shows r (serving_world w h c)
  blocks_reserved r shows =
      shows_then h lt r w shows (tables_of r) (serving_world w h c) (loaded (tables_of r)) (tables_reserved (tables_of r) (loaded (tables_of r)) shows.tables) refl refl (λ j. part (λ d. d.joined) j refl refl) (λ i. inl refl)
      (λ n k new. let is = shows.news n k new in (is.unlocked, is.kept, is.unloaded)) shows.loads shows.offsets

  -- and the same once the world has stopped
  pub stopped_reserved : (r : Blocks) → ShowsStopped r w → ShowsStopped r (serving_world w h c)
  stopped_reserved r shows = record {
    tables = tables_reserved (tables_of r) (loaded (tables_of r)) shows.tables;
    members = λ g lg. part (λ d. d.joined) g refl refl ∙ shows.members g lg;
  }

-- ---- who is whose child

-- an idle hart hands nothing to anybody
none_lent : (h g : ℕ) (w : above.World) → Inv w → Idle h w → g < hart_count → (w.desks g).lender ≡ Some h → ⊥
none_lent h g w inv idle lg e = none-some g (sym (ap (λ (f : ℕ → Option ℕ). f descriptor_count) idle.lent) ∙ (inv.lent g h lg e).child)

-- whatever an idle hart's call reserves
pub other_children : (h : ℕ) (o : Option ℕ) (children : ℕ → Option ℕ) (w : above.World) → Inv w → Idle h w → Reserves children w → Reserves (put children h o) w
other_children h o children w inv idle reserves g c lg e = elim (same_or c h) [
  | inl q ↦ absurd (none_lent h g w inv idle lg (e ∙ ap (λ (z : ℕ). Some z) q))
  | inr ne ↦ put_other children h o c ne ∙ reserves g c lg e
]

pub child_reserved : (h c : ℕ) (children : ℕ → Option ℕ) (w : above.World) → h < hart_count → c ≢ h → (w.desks c).lender ≡ None → Inv w → Idle h w → Reserves children w → Reserves (put children h (Some c)) (serving_world w h c)
child_reserved h c children w lt apart unlent inv idle reserves g l lg e = elim (same_or g c) [
  | inl q ↦
      let mine : h ≡ l = same_Some h l (sym (lender_there h c w lt apart idle unlent) ∙ ap (λ (z : ℕ). ((serving_world w h c).desks z).lender) (sym q) ∙ e) in
      ap (put children h (Some c)) (sym mine) ∙ put_same children h (Some c) ∙ ap (λ (z : ℕ). Some z) (sym q)
  | inr ne ↦ other_children h (Some c) children w inv idle reserves g l lg (sym (lender_other h c w lt apart idle unlent g ne) ∙ e)
]

-- a hart that no call under way reserves is unreserved child
pub unreserved : (h : ℕ) (busy : ℕ → Bool) (children : ℕ → Option ℕ) (w : above.World) → h < hart_count → Inv w → ((other : ℕ) → busy other ≡ false → Idle other w) → Reserves children w → reserved busy children h ≡ false → (w.desks h).lender ≡ None
unreserved h busy children w lt inv idle reserves none = by (w.desks h).lender refl
  where
    under_way : (c : ℕ) → c < hart_count → (w.desks h).lender ≡ Some c → (b : Bool) → busy c ≡ b → ⊥
    under_way c lc e false q = none_lent c h w inv (idle c q) lt e
    under_way c lc e true q =
        let a : (busy c && is_at (children c) h) ≡ false = any_none hart_count (λ c. busy c && is_at (children c) h) none c lc in
        let b : (busy c && is_at (children c) h) ≡ true = (λ i. q i && is_at (reserves h c lt e i) h) ∙ eq_self h in
        cc (a, b)

    by : (o : Option ℕ) → (w.desks h).lender ≡ o → (w.desks h).lender ≡ None
    by None e = e
    by (Some c) e = absurd (under_way c (inv.lent h c lt e).hart e (busy c) refl)

-- ---- a hart without open files has no descriptors

is_below : (a b : ℕ) → a < b → nat_lt a b ≡ true
is_below a b lt = grind (arith, nat_tests)

pub has_none : (h : ℕ) (t : TablesState) (w : above.World) (load : ℕ → Option Loaded) → tables.Shows t w load → Inv w → h < hart_count → (w.desks h).lender ≡ None → has_file h t ≡ false → has_descriptor (w.desks h) ≡ false
has_none h t w load shows inv lt free none = none_any descriptor_count (λ i. not (is_nothing ((w.desks h).fds i))) (λ i li. by i li ((w.desks h).fds i) refl)
  where
    by : (i : ℕ) → i < descriptor_count → (o : Option ℕ) → (w.desks h).fds i ≡ o → not (is_nothing ((w.desks h).fds i)) ≡ false
    by i li None e = ap (λ (o : Option ℕ). not (is_nothing o)) e
    by i li (Some k) e = absurd (cc (a, b))
      where
        a : is_some (file_named h i t) ≡ false
        a = any_none descriptor_count (λ fd. is_some (file_named h fd t)) none i li

        file : (f : Entry) × (w.files k ≡ Some f)
        file = inv.tied.used h i k lt li e

        entry : entry_of w h i ≡ Some file.0
        entry = ap (λ (b : Bool). entry_at w.files (if b then (w.desks h).fds i else None)) (is_below i descriptor_count li) ∙ ap (entry_at w.files) e ∙ file.1

        b : is_some (file_named h i t) ≡ true
        b = ap is_some ((descriptors_name_files h i t w load shows inv (record { below = lt; free = free })).0 ∙ ap (option_map file_of) entry)
