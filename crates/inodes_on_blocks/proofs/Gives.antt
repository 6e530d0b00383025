-- What a hart hands on to the child that it serves.
use Rattle.inodes_on_blocks.proofs.Vocabulary.{◌≡◌, ◌≢◌, inl, inr, ℕ, zero, suc, ◌+◌, ◌-◌, ◌<◌, ◌≤◌, not, cond, if◌then◌else◌, Bool, true, false, List, [], ◌∷◌, drop, length, Option, Some, None, refl, sym, ◌∙◌, ap, subst, arith, slice_get, slice_set, is_some, position_from, option_map, position_from-zero, length-drop, slice_get_within, slice_get-set_same, slice_get-set_other, Ran, put, hart_count, descriptor_count, same_or, put_same, put_other, any_same, change_at, next_full, FilePlace, TablesState, place_of, place_named, with_desk, counted_at, directory_of, give_next, give_by, give_at, given_directory, has_more, descriptors_of, with_descriptor, change_set, length-change_at, Desk, Entry, Lent, Moved, counted_up, first_from, is_at, is_nothing, slot_or, more_users, next_used, with_lent, handed, moved_in, lend_last, lend_if, released, serving, child_of, Inv, Lends, LendsNone, one_refs, below_is, NextUsed, next_is, next_past, serving_none, BothCame, DeskShows, DesksShow, FilesShow, Runs, descriptor, first, lent_by, place_with, is_taken, given_as, DescriptorsAreGiven, DirectoriesAreGiven, ChildrenAreReleased, Loaded}
use Rattle.fs_machine.specs.declared.desk.Desk as cards
use Rattle.fs_machine.specs.declared.slots.Given.TheVariants as given
use Rattle.inode_machine.specs.World.{World}
use Rattle.inode_machine.specs.Rules.{Has}
use Rattle.inodes_on_blocks.specs.ShownTables.{Shows}
use Rattle.inodes_on_blocks.proofs.Basics.{both_ran, place_there, first_place, own_desk, named_is, card_set, shown_counted}

-- ---- the next descriptor

shift : {X : Type 0} (p : X → Bool) (a i : ℕ) (xs : List X) → option_map (λ k. a + k) (position_from p i xs) ≡ position_from p (a + i) xs
shift p a i [] = refl
shift {X} p a i (x ∷ xs) = by (p x) (shift p a (i + 1) xs)
  where
    by : (b : Bool) → option_map (λ k. a + k) (position_from p (i + 1) xs) ≡ position_from p (a + (i + 1)) xs → option_map (λ k. a + k) (cond b (Some i) (position_from p (i + 1) xs)) ≡ cond b (Some (a + i)) (position_from p ((a + i) + 1) xs)
    by true e = refl
    by false e = e ∙ ap (λ (z : ℕ). position_from p z xs) (omega arith)

get-drop : {X : Type 0} (k : ℕ) (xs : List X) (i j : ℕ) → j ≡ k + i → slice_get (drop k xs) i ≡ slice_get xs j
get-drop zero xs i j e = let same : i ≡ j = omega (arith, e) in ap (slice_get xs) same
get-drop (suc k) [] i j e = refl
get-drop (suc k) (x ∷ xs) i zero e = absurd (omega (arith, e))
get-drop (suc k) (x ∷ xs) i (suc j) e = get-drop k xs i j (omega (arith, e))

some_used : (o : Option ℕ) → is_some o ≡ not (is_nothing o)
some_used None = refl
some_used (Some k) = refl

get_some : {X : Type 0} (a b : X) → ◌≡◌ {A = Option X} (Some a) (Some b) → a ≡ b
get_some a b e = cc

pub next_full_is : (from : ℕ) (fds : ℕ → Option ℕ) (ds : List (Option ℕ)) → from ≤ descriptor_count → length ds ≡ descriptor_count → ((j : ℕ) → j < descriptor_count → slice_get ds j ≡ Some (fds j)) → next_full from ds ≡ next_used from fds
next_full_is from fds ds le long same =
    ap (option_map (λ i. from + i)) (position_from-zero is_some (drop from ds)) ∙ shift is_some from 0 (drop from ds) ∙ ap (λ (z : ℕ). position_from is_some z (drop from ds)) zero_more
    ∙ first_place is_some (λ i. not (is_nothing (fds i))) (drop from ds) from (λ j x at.
    let b = slice_get_within (drop from ds) j x at in
    let c = length-drop from ds in
    let e : slice_get ds (from + j) ≡ Some x = sym (get-drop from ds j (from + j) refl) ∙ at in
    ap is_some (get_some x (fds (from + j)) (sym e ∙ same (from + j) (omega (arith, b, c, long, le)))) ∙ some_used (fds (from + j)))
    ∙ ap (λ (z : ℕ). first_from z from (λ i. not (is_nothing (fds i)))) (length-drop from ds ∙ ap (λ (z : ℕ). z - from) long)
  where
    zero_more : from + 0 ≡ from
    zero_more = omega arith

-- ---- desks

-- The hart's desk has the same descriptors, directory and hand; the child's what its card has then.
record Hands (h c : ℕ) (w : World) (D : ℕ → Desk) : Type 0 where
  pub apart : c ≢ h
  pub free : (w.desks h).lender ≡ None
  pub fds : (D h).fds ≡ (w.desks h).fds
  pub lender : (D h).lender ≡ None
  pub directory : (D h).directory ≡ (w.desks h).directory
  pub hand : (D h).hand ≡ (w.desks h).hand
  pub his_lent : (D c).lent ≡ (w.desks c).lent
  pub his_hand : (D c).hand ≡ (w.desks c).hand
  pub others : (g : ℕ) → g ≢ h → g ≢ c → D g ≡ w.desks g

module _ (h c : ℕ) (w : World) (D : ℕ → Desk) (inv : Inv w) (s : Hands h c w D) (lends : Lends w h c) where
  descriptor_same : (g i : ℕ) → g < hart_count → g ≢ c → descriptor D g i ≡ descriptor w.desks g i
  descriptor_same g i lg nc = elim (same_or g h) [
    | inl e ↦ subst (λ (z : ℕ). descriptor D z i ≡ descriptor w.desks z i) (sym e) ((λ z. first (s.fds z i) (lent_by D (s.lender z) i)) ∙ sym (λ z. first ((w.desks h).fds i) (lent_by w.desks (s.free z) i)))
    | inr nh ↦ (λ z. first ((s.others g nh nc z).fds i) (lent_by D (s.others g nh nc z).lender i)) ∙ ap (first ((w.desks g).fds i)) (lent_same nh (w.desks g).lender refl)
  ]
    where
      lent_same : g ≢ h → (o : Option ℕ) → (w.desks g).lender ≡ o → lent_by D o i ≡ lent_by w.desks o i
      lent_same nh None q = refl
      lent_same nh (Some l) q = elim (same_or l h) [
        | inl e ↦ absurd (nc (let a = (inv.lent g l lg q).child in let b : child_of (w.desks h) ≡ Some g = ap (λ (z : ℕ). child_of (w.desks z)) (sym e) ∙ a in get_some g c (sym b ∙ lends.child)))
        | inr nl ↦ elim (same_or l c) [
          | inl e ↦ ap (λ (z : ℕ). (D z).lent i) e ∙ ap (λ (f : ℕ → Option ℕ). f i) s.his_lent ∙ ap (λ (z : ℕ). (w.desks z).lent i) (sym e)
          | inr ne ↦ ap (λ (d : Desk). d.lent i) (s.others l nl ne)
        ]
      ]

  part : {A : Type 0} (f : Desk → A) (g : ℕ) → g ≢ c → f (D h) ≡ f (w.desks h) → f (D g) ≡ f (w.desks g)
  part f g nc mine = elim (same_or g h) [ inl e ↦ ap (λ (z : ℕ). f (D z)) e ∙ mine ∙ ap (λ (z : ℕ). f (w.desks z)) (sym e) | inr nh ↦ ap f (s.others g nh nc) ]

  taken_is : (k : ℕ) → is_taken D k ≡ is_taken w.desks k
  taken_is k = any_same hart_count _ _ (λ g lt. elim (same_or g c) [
    | inl e ↦ ap (λ (z : ℕ). is_at (D z).hand k) e ∙ ap (λ (o : Option ℕ). is_at o k) s.his_hand ∙ ap (λ (z : ℕ). is_at (w.desks z).hand k) (sym e)
    | inr nc ↦ part (λ d. is_at d.hand k) g nc (ap (λ (o : Option ℕ). is_at o k) s.hand)
  ])

  -- the cards after the child's changed
  desks_handed : (list : List cards.Desk) (f : cards.Desk → cards.Desk) → DesksShow list w.desks → c < hart_count → ((d : cards.Desk) → DeskShows d (descriptor w.desks c) (w.desks c).directory (w.desks c).hand → DeskShows (f d) (descriptor D c) (D c).directory (D c).hand) → DesksShow (change_at c f list) D
  desks_handed list f shows lc card g lg =
      let his = shows c lc in
      let was = shows g lg in
      let set = change_set c f list his.0 his.1 in
      elim (same_or g c) [
        | inl e ↦ (
          f his.0,
          ap (λ (l : List cards.Desk). slice_get l g) set ∙ ap (slice_get (slice_set list c (f his.0))) e ∙ slice_get-set_same list c (f his.0) (slice_get_within list c his.0 his.1),
          subst (λ (z : ℕ). DeskShows (f his.0) (descriptor D z) (D z).directory (D z).hand) (sym e) (card his.0 his.2),
        )
        | inr nc ↦ (
          was.0,
          ap (λ (l : List cards.Desk). slice_get l g) set ∙ slice_get-set_other list c g (f his.0) nc ∙ was.1,
          kept g lg nc was.0 was.2,
        )
      ]
    where
      kept : (g : ℕ) → g < hart_count → g ≢ c → (d : cards.Desk) → DeskShows d (descriptor w.desks g) (w.desks g).directory (w.desks g).hand → DeskShows d (descriptor D g) (D g).directory (D g).hand
      kept g lg nc d o = record {
        long = o.long;
        descriptors = λ i li. o.descriptors i li ∙ ap (λ (x : Option ℕ). Some x) (sym (descriptor_same g i lg nc));
        directory = o.directory ∙ sym (part (λ d. d.directory) g nc s.directory);
        hand = o.hand ∙ sym (part (λ d. d.hand) g nc s.hand);
      }

  files_handed : (places : List FilePlace) (F : ℕ → Option Entry) → FilesShow places w.files w.desks → ((k : ℕ) (b : Bool) → place_with b (F k) ≡ place_with b (w.files k)) → FilesShow places F D
  files_handed places F shows same k lt = shows k lt ∙ ap (λ (b : Bool). Some (place_with b (w.files k))) (sym (taken_is k)) ∙ ap (λ (p : FilePlace). Some p) (sym (same k (is_taken D k)))

  -- the cards stay if what the child has under each descriptor does
  desks_kept : (list : List cards.Desk) → DesksShow list w.desks → ((d : cards.Desk) → DeskShows d (descriptor w.desks c) (w.desks c).directory (w.desks c).hand → DeskShows d (descriptor D c) (D c).directory (D c).hand) → DesksShow list D
  desks_kept list shows card g lg =
      let was = shows g lg in (
        was.0,
        was.1,
        elim (same_or g c) [
          | inl e ↦ subst (λ (z : ℕ). DeskShows was.0 (descriptor D z) (D z).directory (D z).hand) (sym e) (card was.0 (subst (λ (z : ℕ). DeskShows was.0 (descriptor w.desks z) (w.desks z).directory (w.desks z).hand) e was.2))
          | inr nc ↦ record {
            long = was.2.long;
            descriptors = λ i li. was.2.descriptors i li ∙ ap (λ (x : Option ℕ). Some x) (sym (descriptor_same g i lg nc));
            directory = was.2.directory ∙ sym (part (λ d. d.directory) g nc s.directory);
            hand = was.2.hand ∙ sym (part (λ d. d.hand) g nc s.hand);
          }
        ],
      )

  -- a hart that hands on is one
  lenders_handed : ((g l : ℕ) → (w.desks g).lender ≡ Some l → l < hart_count) → ((l : ℕ) → (D c).lender ≡ Some l → (w.desks c).lender ≡ Some l) → (g l : ℕ) → (D g).lender ≡ Some l → l < hart_count
  lenders_handed lenders his g l e = elim (same_or g c) [
    | inl q ↦ lenders c l (his l (ap (λ (z : ℕ). (D z).lender) (sym q) ∙ e))
    | inr nc ↦ lenders g l (sym (part (λ d. d.lender) g nc (s.lender ∙ sym s.free)) ∙ e)
  ]

card_as : (d : cards.Desk) (fds gds : ℕ → Option ℕ) (cwd there : ℕ) (hand then_ : Option ℕ) → DeskShows d fds cwd hand → ((i : ℕ) → i < descriptor_count → fds i ≡ gds i) → cwd ≡ there → hand ≡ then_ → DeskShows d gds there then_
card_as d fds gds cwd there hand then_ s same c e = record { long = s.long; descriptors = λ i l. s.descriptors i l ∙ ap (λ (x : Option ℕ). Some x) (same i l); directory = s.directory ∙ c; hand = s.hand ∙ e }

first_none : (o : Option ℕ) → first o None ≡ o
first_none None = refl
first_none (Some k) = refl

more_place : (b : Bool) (o : Option Entry) → place_with b (more_users o) ≡ place_with b o
more_place b None = refl
more_place b (Some e) = refl

module _ (h c : ℕ) (t : TablesState) (w : World) (load : ℕ → Option Loaded) (shows : Shows t w load) (inv : Inv w) (runs : Runs h w) (lc : c < hart_count) (lender : (w.desks c).lender ≡ Some h) where
  lends : Lends w h c
  lends = inv.lent c h lc lender

  apart : c ≢ h
  apart e = let a : (w.desks h).lender ≡ Some h = ap (λ (z : ℕ). (w.desks z).lender) (sym e) ∙ lender in let b = runs.free in cc (a, b)

  own : (d : cards.Desk) × (slice_get t.desks h ≡ Some d) × DeskShows d (w.desks h).fds (w.desks h).directory (w.desks h).hand
  own = own_desk h t w load shows runs

  next_same : (from : ℕ) → from ≤ descriptor_count → next_full from (descriptors_of (slice_get t.desks h)) ≡ next_used from (w.desks h).fds
  next_same from le = ap (λ (o : Option cards.Desk). next_full from (descriptors_of o)) own.1 ∙ next_full_is from (w.desks h).fds own.0.descriptors le own.2.long own.2.descriptors

  -- what the child has under a descriptor, of its own or on its way
  child_has : (i : ℕ) → (w.desks c).fds i ≡ None → descriptor w.desks c i ≡ (w.desks h).lent i
  child_has i none = (λ z. first (none z) (lent_by w.desks (lender z) i))

  -- ---- a descriptor

  module _ (i k : ℕ) (li : i < descriptor_count) (is : (w.desks h).fds i ≡ Some k) (none : (j : ℕ) → j < descriptor_count → (w.desks c).fds j ≡ None) where
    abbrev one : ℕ → Desk
    one = put w.desks h (record (w.desks h) { lent = put (w.desks h).lent i ((w.desks h).fds i) })

    abbrev F : ℕ → Option Entry
    F = put w.files (slot_or ((w.desks h).fds i)) (more_users (w.files (slot_or ((w.desks h).fds i))))

    files_same : (j : ℕ) (b : Bool) → place_with b (F j) ≡ place_with b (w.files j)
    files_same j b = elim (same_or j (slot_or ((w.desks h).fds i))) [
      | inl e ↦ ap (λ (o : Option Entry). place_with b o) (ap F e ∙ put_same w.files (slot_or ((w.desks h).fds i)) (more_users (w.files (slot_or ((w.desks h).fds i))))) ∙ more_place b (w.files (slot_or ((w.desks h).fds i))) ∙ ap (λ (z : ℕ). place_with b (w.files z)) (sym e)
      | inr ne ↦ ap (λ (o : Option Entry). place_with b o) (put_other w.files (slot_or ((w.desks h).fds i)) (more_users (w.files (slot_or ((w.desks h).fds i)))) j ne)
    ]

    one_here : one h ≡ record (w.desks h) { lent = put (w.desks h).lent i ((w.desks h).fds i) }
    one_here = put_same w.desks h (record (w.desks h) { lent = put (w.desks h).lent i ((w.desks h).fds i) })

    one_there : (g : ℕ) → g ≢ h → one g ≡ w.desks g
    one_there g ne = put_other w.desks h (record (w.desks h) { lent = put (w.desks h).lent i ((w.desks h).fds i) }) g ne

    -- what was there, and the new one
    has_now : (j : ℕ) → j < descriptor_count → put (descriptor w.desks c) i (Some k) j ≡ put (w.desks h).lent i ((w.desks h).fds i) j
    has_now j lj = elim (same_or j i) [
      | inl e ↦ ap (put (descriptor w.desks c) i (Some k)) e ∙ put_same (descriptor w.desks c) i (Some k) ∙ sym (ap (put (w.desks h).lent i ((w.desks h).fds i)) e ∙ put_same (w.desks h).lent i ((w.desks h).fds i) ∙ is)
      | inr ne ↦ put_other (descriptor w.desks c) i (Some k) j ne ∙ child_has j (none j lj) ∙ sym (put_other (w.desks h).lent i ((w.desks h).fds i) j ne)
    ]

    hands_one : Hands h c w one
    hands_one = record {
      apart = apart;
      free = runs.free;
      fds = ap (λ (d : Desk). d.fds) one_here;
      lender = ap (λ (d : Desk). d.lender) one_here ∙ runs.free;
      directory = ap (λ (d : Desk). d.directory) one_here;
      hand = ap (λ (d : Desk). d.hand) one_here;
      his_lent = ap (λ (d : Desk). d.lent) (one_there c apart);
      his_hand = ap (λ (d : Desk). d.hand) (one_there c apart);
      others = λ g nh nc. one_there g nh;
    }

    card_one : (d : cards.Desk) → DeskShows d (descriptor w.desks c) (w.desks c).directory (w.desks c).hand → (D : ℕ → Desk) → ((j : ℕ) → j < descriptor_count → put (w.desks h).lent i ((w.desks h).fds i) j ≡ descriptor D c j) → (D c).directory ≡ (w.desks c).directory → (D c).hand ≡ (w.desks c).hand → DeskShows (with_descriptor i (Some k) d) (descriptor D c) (D c).directory (D c).hand
    card_one d o D same cwd hand =
        let a = card_set d (descriptor w.desks c) (w.desks c).directory (w.desks c).hand (w.desks c).hand i (Some k) o li in
        card_as (with_descriptor i (Some k) d) (put (descriptor w.desks c) i (Some k)) (descriptor D c) (w.desks c).directory (D c).directory (w.desks c).hand (D c).hand (record { long = a.long; descriptors = a.descriptors; directory = a.directory; hand = o.hand }) (λ j lj. has_now j lj ∙ same j lj) (sym cwd) (sym hand)

    shown_one : Shows (with_desk c (with_descriptor i (Some k)) t) (with_lent w h i) load
    shown_one = record {
      sound = record { inodes = shows.sound.inodes; files = shows.sound.files; desks = length-change_at c (with_descriptor i (Some k)) t.desks ∙ shows.sound.desks };
      places = shows.places;
      files = files_handed h c w one inv hands_one lends t.files F shows.files files_same;
      desks = desks_handed h c w one inv hands_one lends t.desks (with_descriptor i (Some k)) shows.desks lc (λ d o. card_one d o one
          (λ j lj. ap (λ (d : Desk). d.lent j) (sym one_here) ∙ sym (λ z. first ((ap (λ (d : Desk). d.fds j) (one_there c apart) ∙ none j lj) z) (lent_by one ((ap (λ (d : Desk). d.lender) (one_there c apart) ∙ lender) z) j)))
          (ap (λ (d : Desk). d.directory) (one_there c apart)) (ap (λ (d : Desk). d.hand) (one_there c apart)));
      lenders = lenders_handed h c w one inv hands_one lends shows.lenders (λ l e. sym (ap (λ (d : Desk). d.lender) (one_there c apart)) ∙ e);
      range = shows.range;
    }

    -- with the last one the child has them all
    abbrev last : ℕ → Desk
    last = put (put one h (record (one h) { lent = serving c (Some 0) })) c (record (one c) { fds = put (one h).lent descriptor_count None })

    last_here : last h ≡ record (one h) { lent = serving c (Some 0) }
    last_here = put_other (put one h (record (one h) { lent = serving c (Some 0) })) c (record (one c) { fds = put (one h).lent descriptor_count None }) h (λ e. apart (sym e)) ∙ put_same one h (record (one h) { lent = serving c (Some 0) })

    last_there : last c ≡ record (one c) { fds = put (one h).lent descriptor_count None }
    last_there = put_same (put one h (record (one h) { lent = serving c (Some 0) })) c (record (one c) { fds = put (one h).lent descriptor_count None })

    hands_last : Hands h c w last
    hands_last = record {
      apart = apart;
      free = runs.free;
      fds = ap (λ (d : Desk). d.fds) last_here ∙ hands_one.fds;
      lender = ap (λ (d : Desk). d.lender) last_here ∙ hands_one.lender;
      directory = ap (λ (d : Desk). d.directory) last_here ∙ hands_one.directory;
      hand = ap (λ (d : Desk). d.hand) last_here ∙ hands_one.hand;
      his_lent = ap (λ (d : Desk). d.lent) last_there ∙ hands_one.his_lent;
      his_hand = ap (λ (d : Desk). d.hand) last_there ∙ hands_one.his_hand;
      others = λ g nh nc. put_other (put one h (record (one h) { lent = serving c (Some 0) })) c (record (one c) { fds = put (one h).lent descriptor_count None }) g nc ∙ put_other one h (record (one h) { lent = serving c (Some 0) }) g nh ∙ one_there g nh;
    }

    has_last : (j : ℕ) → j < descriptor_count → descriptor last c j ≡ put (w.desks h).lent i ((w.desks h).fds i) j
    has_last j lj =
        (λ z. first ((ap (λ (d : Desk). d.fds j) last_there ∙ put_other (one h).lent descriptor_count None j (λ e. absurd (omega (arith, e, lj))) ∙ ap (λ (d : Desk). d.lent j) one_here) z) (lent_by last ((ap (λ (d : Desk). d.lender) last_there ∙ ap (λ (d : Desk). d.lender) (one_there c apart) ∙ lender) z) j))
        ∙ ap (first (put (w.desks h).lent i ((w.desks h).fds i) j)) (ap (λ (d : Desk). d.lent j) last_here ∙ serving_none c (Some 0) j lj) ∙ first_none (put (w.desks h).lent i ((w.desks h).fds i) j)

    shown_last : Shows (with_desk c (with_descriptor i (Some k)) t) (handed (with_lent w h i) h c) load
    shown_last = record {
      sound = record { inodes = shows.sound.inodes; files = shows.sound.files; desks = length-change_at c (with_descriptor i (Some k)) t.desks ∙ shows.sound.desks };
      places = shows.places;
      files = files_handed h c w last inv hands_last lends t.files F shows.files files_same;
      desks = desks_handed h c w last inv hands_last lends t.desks (with_descriptor i (Some k)) shows.desks lc (λ d o. card_one d o last (λ j lj. sym (has_last j lj))
          (ap (λ (d : Desk). d.directory) last_there ∙ ap (λ (d : Desk). d.directory) (one_there c apart)) (ap (λ (d : Desk). d.hand) last_there ∙ ap (λ (d : Desk). d.hand) (one_there c apart)));
      lenders = lenders_handed h c w last inv hands_last lends shows.lenders (λ l e. sym (ap (λ (d : Desk). d.lender) last_there ∙ ap (λ (d : Desk). d.lender) (one_there c apart)) ∙ e);
      range = shows.range;
    }

  -- ---- the directory

  module _ (unlent : LendsNone h w) where
    abbrev home : ℕ
    home = (w.desks h).directory

    abbrev moved : ℕ → Desk
    moved = put (put w.desks h (record (w.desks h) { lent = serving c (Some 1) })) c (record (w.desks c) { directory = home; left = None })

    moved_here : moved h ≡ record (w.desks h) { lent = serving c (Some 1) }
    moved_here = put_other (put w.desks h (record (w.desks h) { lent = serving c (Some 1) })) c (record (w.desks c) { directory = home; left = None }) h (λ e. apart (sym e)) ∙ put_same w.desks h (record (w.desks h) { lent = serving c (Some 1) })

    moved_there : moved c ≡ record (w.desks c) { directory = home; left = None }
    moved_there = put_same (put w.desks h (record (w.desks h) { lent = serving c (Some 1) })) c (record (w.desks c) { directory = home; left = None })

    hands_moved : Hands h c w moved
    hands_moved = record {
      apart = apart;
      free = runs.free;
      fds = ap (λ (d : Desk). d.fds) moved_here;
      lender = ap (λ (d : Desk). d.lender) moved_here ∙ runs.free;
      directory = ap (λ (d : Desk). d.directory) moved_here;
      hand = ap (λ (d : Desk). d.hand) moved_here;
      his_lent = ap (λ (d : Desk). d.lent) moved_there;
      his_hand = ap (λ (d : Desk). d.hand) moved_there;
      others = λ g nh nc. put_other (put w.desks h (record (w.desks h) { lent = serving c (Some 1) })) c (record (w.desks c) { directory = home; left = None }) g nc ∙ put_other w.desks h (record (w.desks h) { lent = serving c (Some 1) }) g nh;
    }

    has_moved : (j : ℕ) → j < descriptor_count → descriptor w.desks c j ≡ descriptor moved c j
    has_moved j lj =
        (λ z. first ((w.desks c).fds j) (lent_by w.desks (lender z) j)) ∙ ap (first ((w.desks c).fds j)) (unlent j lj ∙ sym (ap (λ (d : Desk). d.lent j) moved_here ∙ serving_none c (Some 1) j lj))
        ∙ sym (λ z. first ((moved_there z).fds j) (lent_by moved ((ap (λ (d : Desk). d.lender) moved_there ∙ lender) z) j))

    referred : 0 < w.refs home
    referred = let a = one_refs w h home inv runs.below in let b = (inv.refers h runs.below).home in omega (arith, a, b)

    place : (k : ℕ) × (place_of home t.entries ≡ Some k)
    place = place_there home t w load shows referred

    counted : Shows (counted_at place.0 t) (counted_up h home w) load
    counted = shown_counted h home t w load shows (shows.range home referred).0 (shows.range home referred).1 place.0 place.1

    home_is : directory_of (slice_get t.desks h) ≡ home
    home_is = ap directory_of own.1 ∙ own.2.directory

    shown_moved : Shows (with_desk c (λ d. record d { directory = directory_of (slice_get t.desks h) }) (counted_at place.0 t)) (moved_in w h c) load
    shown_moved = record {
      sound = record { inodes = counted.sound.inodes; files = shows.sound.files; desks = length-change_at c (λ d. record d { directory = directory_of (slice_get t.desks h) }) t.desks ∙ shows.sound.desks };
      places = counted.places;
      files = files_handed h c w moved inv hands_moved lends t.files w.files shows.files (λ j b. refl);
      desks = desks_handed h c w moved inv hands_moved lends t.desks (λ d. record d { directory = directory_of (slice_get t.desks h) }) shows.desks lc (λ d o. record {
        long = o.long;
        descriptors = λ j lj. o.descriptors j lj ∙ ap (λ (x : Option ℕ). Some x) (has_moved j lj);
        directory = home_is ∙ ap (λ (d : Desk). d.directory) (sym moved_there);
        hand = o.hand ∙ ap (λ (d : Desk). d.hand) (sym moved_there);
      });
      lenders = lenders_handed h c w moved inv hands_moved lends shows.lenders (λ l e. sym (ap (λ (d : Desk). d.lender) moved_there) ∙ e);
      range = counted.range;
    }

    his_directory : directory_of (slice_get t.desks c) ≡ (w.desks c).directory
    his_directory = let s = shows.desks c lc in ap directory_of s.1 ∙ s.2.directory

    given_is : given_directory h c t (place_of (directory_of (slice_get t.desks h)) t.entries) ≡ Ran (given.Directory (w.desks c).directory) (with_desk c (λ d. record d { directory = directory_of (slice_get t.desks h) }) (counted_at place.0 t))
    given_is = ap (λ (n : ℕ). given_directory h c t (place_of n t.entries)) home_is ∙ ap (given_directory h c t) place.1 ∙ (λ z. Ran (given.Directory (his_directory z)) (with_desk c (λ d. record d { directory = directory_of (slice_get t.desks h) }) (counted_at place.0 t)))

    -- ---- the child starts again

    abbrev free_desks : ℕ → Desk
    free_desks = put (put w.desks h (record (w.desks h) { lent = λ i. None })) c (record (w.desks c) { lender = None })

    free_here : free_desks h ≡ record (w.desks h) { lent = λ i. None }
    free_here = put_other (put w.desks h (record (w.desks h) { lent = λ i. None })) c (record (w.desks c) { lender = None }) h (λ e. apart (sym e)) ∙ put_same w.desks h (record (w.desks h) { lent = λ i. None })

    free_there : free_desks c ≡ record (w.desks c) { lender = None }
    free_there = put_same (put w.desks h (record (w.desks h) { lent = λ i. None })) c (record (w.desks c) { lender = None })

    hands_free : Hands h c w free_desks
    hands_free = record {
      apart = apart;
      free = runs.free;
      fds = ap (λ (d : Desk). d.fds) free_here;
      lender = ap (λ (d : Desk). d.lender) free_here ∙ runs.free;
      directory = ap (λ (d : Desk). d.directory) free_here;
      hand = ap (λ (d : Desk). d.hand) free_here;
      his_lent = ap (λ (d : Desk). d.lent) free_there;
      his_hand = ap (λ (d : Desk). d.hand) free_there;
      others = λ g nh nc. put_other (put w.desks h (record (w.desks h) { lent = λ i. None })) c (record (w.desks c) { lender = None }) g nc ∙ put_other w.desks h (record (w.desks h) { lent = λ i. None }) g nh;
    }

    pub shown_released : Shows t (released w h c) load
    shown_released = record {
      sound = shows.sound;
      places = shows.places;
      files = files_handed h c w free_desks inv hands_free lends t.files w.files shows.files (λ j b. refl);
      desks = desks_kept h c w free_desks inv hands_free lends t.desks shows.desks (λ d o. card_as d (descriptor w.desks c) (descriptor free_desks c) (w.desks c).directory (free_desks c).directory (w.desks c).hand (free_desks c).hand o
          (λ j lj. (λ z. first ((w.desks c).fds j) (lent_by w.desks (lender z) j)) ∙ ap (first ((w.desks c).fds j)) (unlent j lj) ∙ sym (λ z. first ((free_there z).fds j) (lent_by free_desks ((free_there z).lender) j)))
          (ap (λ (d : Desk). d.directory) (sym free_there)) (ap (λ (d : Desk). d.hand) (sym free_there)));
      lenders = lenders_handed h c w free_desks inv hands_free lends shows.lenders (λ l e. absurd (let a = ap (λ (d : Desk). d.lender) free_there in cc (a, e)));
      range = shows.range;
    }

-- ---- the laws

pub directories_are_given : DirectoriesAreGiven
unfolding give_next
directories_are_given version h c t w load shows inv runs asks =
    both_ran (λ a b. a ≡ given.Directory b) (λ a. load) (give_by h c t (next_full descriptor_count (descriptors_of (slice_get t.desks h)))) (Ran (w.desks c).directory (moved_in w h c)) (given.Directory (w.desks c).directory) (w.desks c).directory _ (moved_in w h c)
    (ap (give_by h c t) (next_same h c t w load shows inv runs asks.0.0 asks.0.1 descriptor_count (omega arith) ∙ next_past descriptor_count (w.desks h).fds (omega arith)) ∙ given_is h c t w load shows inv runs asks.0.0 asks.0.1 asks.1)
    refl refl (shown_moved h c t w load shows inv runs asks.0.0 asks.0.1 asks.1)

pub children_are_released : ChildrenAreReleased
children_are_released version h c t w load shows inv runs asks = shown_released h c t w load shows inv runs asks.0.0 asks.0.1 asks.1

pub descriptors_are_given : DescriptorsAreGiven
unfolding give_next
descriptors_are_given version h c from t w load shows inv runs asks le = at (next_used from (w.desks h).fds) refl
  where
    none : (j : ℕ) → j < descriptor_count → (w.desks c).fds j ≡ None
    none = (subst (λ (z : Option ℕ). Has z (w.desks c).fds (w.all.cwd c) (w.desks c).directory (w.desks h).directory) asks.1 (inv.lent c h asks.0.0 asks.0.1).has).0

    below : (o : Option ℕ) → next_used from (w.desks h).fds ≡ o → give_by h c t (next_full from (descriptors_of (slice_get t.desks h))) ≡ give_by h c t o
    below o e = ap (give_by h c t) (next_same h c t w load shows inv runs asks.0.0 asks.0.1 from le ∙ e)

    at : (o : Option ℕ) → next_used from (w.desks h).fds ≡ o → BothCame (λ a b. a ≡ given_as b) (λ a. load) (give_by h c t (next_full from (descriptors_of (slice_get t.desks h)))) (lend_if h w c (next_used from (w.desks h).fds))
    at None e =
        let unlent : LendsNone h w = (λ j lj. asks.2 j (let z = asks.3 e in omega (arith, z)) lj) in
        both_ran (λ a b. a ≡ given_as b) (λ a. load) _ (lend_if h w c (next_used from (w.desks h).fds)) (given.Directory (w.desks c).directory) (Moved (w.desks c).directory) _ (moved_in w h c)
        (below None e ∙ given_is h c t w load shows inv runs asks.0.0 asks.0.1 unlent) (ap (lend_if h w c) e) refl (shown_moved h c t w load shows inv runs asks.0.0 asks.0.1 unlent)
    at (Some i) e = some (next_used (i + 1) (w.desks h).fds) refl
      where
        x : NextUsed from i (w.desks h).fds
        x = next_is from i (w.desks h).fds le e

        named : place_named h i t ≡ Some x.slot
        named = named_is h i t w load shows runs ∙ ap (λ (b : Bool). if b then (w.desks h).fds i else None) (below_is i descriptor_count x.below) ∙ x.is

        more_is : has_more h i t ≡ not (is_nothing (next_used (i + 1) (w.desks h).fds))
        more_is = ap is_some (next_same h c t w load shows inv runs asks.0.0 asks.0.1 (i + 1) (let b = x.below in omega (arith, b))) ∙ some_used (next_used (i + 1) (w.desks h).fds)

        lower : give_by h c t (next_full from (descriptors_of (slice_get t.desks h))) ≡ Ran (given.Descriptor i (has_more h i t)) (with_desk c (with_descriptor i (Some x.slot)) t)
        lower = below (Some i) e ∙ ap (give_at h c i t) named

        some : (o : Option ℕ) → next_used (i + 1) (w.desks h).fds ≡ o → BothCame (λ a b. a ≡ given_as b) (λ a. load) (give_by h c t (next_full from (descriptors_of (slice_get t.desks h)))) (lend_if h w c (next_used from (w.desks h).fds))
        some (Some j) q =
            both_ran (λ a b. a ≡ given_as b) (λ a. load) _ (lend_if h w c (next_used from (w.desks h).fds)) (given.Descriptor i (has_more h i t)) (Lent i true) _ (with_lent w h i)
            lower (ap (lend_if h w c) e ∙ (λ z. Ran (Lent i (not (is_nothing (q z)))) (lend_last (with_lent w h i) h c (q z)))) (ap (given.Descriptor i) (more_is ∙ ap (λ (z : Option ℕ). not (is_nothing z)) q))
            (shown_one h c t w load shows inv runs asks.0.0 asks.0.1 i x.slot x.below x.is none)
        some None q =
            both_ran (λ a b. a ≡ given_as b) (λ a. load) _ (lend_if h w c (next_used from (w.desks h).fds)) (given.Descriptor i (has_more h i t)) (Lent i false) _ (handed (with_lent w h i) h c)
            lower (ap (lend_if h w c) e ∙ (λ z. Ran (Lent i (not (is_nothing (q z)))) (lend_last (with_lent w h i) h c (q z)))) (ap (given.Descriptor i) (more_is ∙ ap (λ (z : Option ℕ). not (is_nothing z)) q))
            (shown_last h c t w load shows inv runs asks.0.0 asks.0.1 i x.slot x.below x.is none)
