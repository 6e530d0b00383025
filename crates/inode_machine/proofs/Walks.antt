-- A walk: it begins, goes on from directory to directory, and is lost; what it drops last goes on the call's list.
use Rattle.image_versions.specs.declared.version.Version.{Version}
use Rattle.inode_machine.proofs.Vocabulary.{◌≡◌, ◌≢◌, ◌⊎◌, inl, inr, ℕ, ◌+◌, ◌-◌, ◌*◌, ◌<◌, ◌≤◌, Bool, true, false, ◌==◌, ◌||◌, List, [], ◌∷◌, ◌++◌, length, Option, Some, None, refl, sym, ◌∙◌, ap, subst, arith, if◌then◌else◌, Do, unmarked, own, onto, Fine, Safe, Wp, NoEntry, Reply, Node, Action, Inherit, hart_count, root, Name, Tree, put, look, is_live, live_directory, hold_names, refusal_with, refused, IsInPlace, Row, key_names, row_of, one_if, either, same_or, put_same, put_other, Walk, Deed, Stage, Step, Acts, LookupLeadsTo, fail, Look, GiveUpWalk, Desk, Note, World, Mark, Take, UnlockInode, AtName, AtNothing, seen_in, face_of, is_directory_face, type_of, is_at, looked, acts, found_by, marked, mended, places, Own, Held, key_in, own_names, own_of, Inv, machine, reference_limit, ThisP as P, WalkStop, NotThere, NoMemory, leave_directory, looks_or_quits, walk, walk_step, walk_parent, see_parent, quits_unless, makes, look_cost}
use Rattle.inode_machine.proofs.Names.{AllNames}
use Rattle.inode_machine.proofs.Frame.{Fair, fair_same}
use Rattle.inode_machine.proofs.Rules.{quiet, locked_held, s-up, noted_type, root_live}
use Rattle.inode_machine.proofs.Counting.{s-give, s-walk-down, MayDrop, one_most}
use Rattle.inode_machine.proofs.Looks.{live_face, no_directory, s-take-then, MoveFine, quit_good, look_on_good, look_refused_good, spoilt, KeepsHold, mends}
use Rattle.inode_machine.proofs.Listing.{times, times_last, length_last, one_at, one_else, Listed, listed_held, listed_among, listed_on, listed_more}

-- what a hart has of its own stays, but for the inodes that it keeps, its references, and what it noted
pub record Stays (O O0 : Own) : Type 0 where
  pub row : O.row ≡ O0.row
  pub ninodes : O.ninodes ≡ O0.ninodes
  pub fds : O.desk.fds ≡ O0.desk.fds
  pub hand : O.desk.hand ≡ O0.desk.hand
  pub joined : O.desk.joined ≡ O0.desk.joined
  pub directory : O.desk.directory ≡ O0.desk.directory
  pub lent : O.desk.lent ≡ O0.desk.lent
  pub lender : O.desk.lender ≡ O0.desk.lender
  pub opening : O.desk.opening ≡ O0.desk.opening
  pub left : O.desk.left ≡ O0.desk.left

pub names_stay : (O O0 : Own) → Stays O O0 → (i : ℕ) → own_names O.row O.desk i ≡ own_names O0.row O0.desk i
names_stay O O0 s i = λ z. ((s.row z).cwd == i) || (hold_names (s.row z).hold i || (key_names (key_in (s.row z).keys (s.opening z)) i || is_at (s.left z) i))

-- A directory is given up in a walk. x: the hart's references without this one.
pub s-leave-directory : (version : Version) {A : Type 0} {h : ℕ} (d : ℕ) (ns : List ℕ) (c : Option Node) (x : ℕ → ℕ) (base : ℕ → ℕ) {k : List ℕ → P A} {B : List Step → Type 0} {Q : A → List Step → World → Type 0} {n : ℕ} {es : List Step} {w : World} {O O1 : Own}
    → own_of h w ≡ O1 → O1.desk.lender ≡ None → h < hart_count → 1 < n → O1.inodes ≡ put O.inodes d (Some (locked_held c)) → O.inodes d ≡ None → Listed O base ns → O1.mine.pending ≡ None
    → ((i : ℕ) → O1.mine.refs i ≡ x i + one_if (d == i)) → ((i : ℕ) → 0 < times i ns → O1.mine.refs i ≡ O.mine.refs i) → ((i : ℕ) → own_names O1.row O1.desk i ≡ own_names O.row O.desk i)
    → ((0 < x d) ⊎ ((own_names O1.row O1.desk d ≡ false) × ((y : Walk) → O1.mine.walk ≡ Some y → y.at ≢ d)))
    → ((l : ℕ) (ms : List ℕ) (R : Own) (u : World) → l + 2 ≡ n → length ms ≤ length ns + 1 → own_of h u ≡ R → ((i : ℕ) → R.mine.refs i + times i ns ≡ x i + times i ms) → R.mine.walk ≡ O1.mine.walk → R.mine.pending ≡ O1.mine.pending → R.row ≡ O1.row → R.desk ≡ O1.desk → R.ninodes ≡ O1.ninodes → Listed R base ms
    → ((i : ℕ) → i ≢ d → R.inodes i ≡ O.inodes i) → ((0 < x d) → R.inodes d ≡ None) → Safe (machine version) h B Q (k ms) l es u)
    → Safe (machine version) h B Q (leave_directory d ns k) n es w
s-leave-directory version {A} {h} d ns c x base {k} {B} {Q} {n} {es} {w} {O} {O1} owns free lt few inodes out l pending refs same names may rest =
    s-give version owns free lt (omega arith) (ap (λ (f : ℕ → Option Held). f d) inodes ∙ put_same O.inodes d (Some (locked_held c))) refl refl refl pending (λ l1 u1 q1 own1.
    s-walk-down version own1 free lt (omega (arith, q1, few)) (put_same O1.inodes d None) (let r = refs d in let o = one_at d in omega (arith, r, o)) pending may_drop
    (λ l2 s u2 q2 dead has one own2. rest l2 (ns ++ d ∷ []) _ u2 (omega (arith, q1, q2)) (let e = length_last d ns in omega (arith, e)) own2 (λ i. let t = times_last i d ns in let r = refs i in omega (arith, t, r)) refl refl refl refl refl
    (listed_more O (kept s) base ns d l out (record { node = s; there = has; is = put_same (put O1.inodes d None) d (Some (listed_held s)); dead = dead; one = one; unnamed = unnamed one }) (λ i ne. put_other (put O1.inodes d None) d (Some (listed_held s)) i ne ∙ gone i ne) same (λ i q. names i ∙ q))
    (λ i ne. put_other (put O1.inodes d None) d (Some (listed_held s)) i ne ∙ gone i ne) (λ p. absurd (let r = refs d in let o = one_at d in omega (arith, r, o, one, p))))
    (λ l2 u2 q2 own2. rest l2 ns _ u2 (omega (arith, q1, q2)) (omega arith) own2 (λ i. fewer i) refl refl refl refl refl
    (listed_on O counted base ns l (λ i. back i) (λ i t. put_other O1.mine.refs d (O1.mine.refs d - 1) i (not_d i t) ∙ same i t) (λ i q. names i ∙ q))
    (λ i ne. gone i ne) (λ p. put_same O1.inodes d None)))
  where
    may_drop : MayDrop (record O1 { inodes = put O1.inodes d None }) d
    may_drop = elim may [ inl p ↦ inl (let r = refs d in let o = one_at d in omega (arith, r, o, p)) | inr m ↦ inr m ]

    kept : Option Node → Own
    kept s = record O1 { inodes = put (put O1.inodes d None) d (Some (listed_held s)) }

    counted : Own
    counted = record O1 { inodes = put O1.inodes d None; mine = record { refs = put O1.mine.refs d (O1.mine.refs d - 1); walk = O1.mine.walk; pending = O1.mine.pending } }

    unnamed : O1.mine.refs d ≡ 1 → own_names O1.row O1.desk d ≡ false
    unnamed one = elim may [ inl p ↦ absurd (let r = refs d in let o = one_at d in omega (arith, r, o, one, p)) | inr m ↦ m.0 ]

    gone : (i : ℕ) → i ≢ d → put O1.inodes d None i ≡ O.inodes i
    gone i ne = put_other O1.inodes d None i ne ∙ ap (λ (f : ℕ → Option Held). f i) inodes ∙ put_other O.inodes d (Some (locked_held c)) i ne

    back : (i : ℕ) → put O1.inodes d None i ≡ O.inodes i
    back i = elim (same_or i d) [ inl q ↦ ap (put O1.inodes d None) q ∙ put_same O1.inodes d None ∙ sym out ∙ ap O.inodes (sym q) | inr ne ↦ gone i ne ]

    not_d : (i : ℕ) → 0 < times i ns → i ≢ d
    not_d i t q = absurd (let a = (l.all i t).is in let b : O.inodes i ≡ None = ap O.inodes q ∙ out in cc (a, b))

    fewer : (i : ℕ) → put O1.mine.refs d (O1.mine.refs d - 1) i + times i ns ≡ x i + times i ns
    fewer i = elim (same_or i d) [
      | inl q ↦ (let a : put O1.mine.refs d (O1.mine.refs d - 1) i ≡ O1.mine.refs d - 1 = ap (put O1.mine.refs d (O1.mine.refs d - 1)) q ∙ put_same O1.mine.refs d (O1.mine.refs d - 1) in let r = refs d in let o = one_at d in let e : x i ≡ x d = ap x q in omega (arith, a, r, o, e))
      | inr ne ↦ (let a = put_other O1.mine.refs d (O1.mine.refs d - 1) i ne in let r = refs i in let o = one_else d i ne in omega (arith, a, r, o))
    ]

-- why an inode is known to be there: it is the root, the current directory, or what was noted
abbrev pub Known : Own → ℕ → Type 0
Known O d = (d ≡ root) ⊎ ((d ≡ O.row.cwd) ⊎ ((m : Note) × (O.desk.noted ≡ Some m) × (m.number ≡ d) × (m.inode_type ≢ None)))

pub known_there : (h d : ℕ) (v : World) (O : Own) → Inv v → own_of h v ≡ O → h < hart_count → O.inodes d ≡ None → 0 < O.mine.refs d → Known O d → v.all.nodes d ≢ None
known_there h d v O inv ov lt out refers (inl q) e = let l = root_live v.all inv.well in let f : is_live (v.all.nodes root) ≡ false = ap (λ (z : Option Node). is_live z) (ap v.all.nodes (sym q) ∙ e) in cc (l, f)
known_there h d v O inv ov lt out refers (inr (inl q)) e =
    let t = inv.well.directories h lt in
    let a = t.is in
    let c : v.all.nodes (v.all.cwd h) ≡ None = ap v.all.nodes (sym (q ∙ ap (λ (o : Own). o.row.cwd) (sym ov))) ∙ e in
    cc (a, c)
known_there h d v O inv ov lt out refers (inr (inr p)) e = p.3 (sym (noted_type h d O p.0 p.1 p.2 out refers lt v inv ov) ∙ ap (λ (z : Option Node). type_of z) e)

-- A call walks. O0: what it had of its own at the beginning; base: its references then.
pub record On (version : Version) (h : ℕ) (s : Action) (d : ℕ) (e : Name) (r : List Name) (base : ℕ → ℕ) (ns : List ℕ) (O0 O : Own) (w : World) : Type 0 where
  pub owns : own_of h w ≡ O
  pub stays : Stays O O0
  pub walk : O.mine.walk ≡ Some (record { step = s; at = d; next = e; rest = r })
  pub pending : O.mine.pending ≡ None
  pub refs : (i : ℕ) → O.mine.refs i ≡ base i + times i ns + one_if (d == i)
  pub listed : Listed O base ns
  pub out : O.inodes d ≡ None
  -- what it noted it refers to
  pub notes : (m : Note) → O.desk.noted ≡ Some m → 0 < O.mine.refs m.number
  pub known : Known O d
  pub names : AllNames version (e ∷ r)

pub on_refers : (version : Version) {h : ℕ} {s : Action} {d : ℕ} {e : Name} {r : List Name} {base : ℕ → ℕ} {ns : List ℕ} {O0 O : Own} {w : World} → On version h s d e r base ns O0 O w → 0 < O.mine.refs d
on_refers version {d = d} on = let f = on.refs d in let o = one_at d in omega (arith, f, o)

-- It has come to j: its walk goes on from there, or has led there; t: what it noted.
pub record At (h j : ℕ) (base : ℕ → ℕ) (ns : List ℕ) (k : Option Walk) (t : Option Note) (O0 O : Own) (w : World) : Type 0 where
  pub owns : own_of h w ≡ O
  pub stays : Stays O O0
  pub noted : O.desk.noted ≡ t
  pub walk : O.mine.walk ≡ k
  pub pending : O.mine.pending ≡ None
  pub refs : (i : ℕ) → O.mine.refs i ≡ base i + times i ns + one_if (j == i)
  pub listed : Listed O base ns
  pub out : O.inodes j ≡ None

-- What a lookup in directory d, whose lock the hart has taken, leaves if it found j. O: what the hart had before the
-- lock.
pub record Finds (d j : ℕ) (c : Option Node) (k : Option Walk) (O O2 : Own) : Type 0 where
  pub inodes : O2.inodes ≡ put O.inodes d (Some (locked_held c))
  pub refs : O2.mine.refs ≡ O.mine.refs
  pub walk : O2.mine.walk ≡ k
  pub lands : (y : Walk) → k ≡ Some y → y.at ≡ j
  pub pending : O2.mine.pending ≡ Some j
  pub lives : (z : Held) → O.inodes j ≡ Some z → is_live z.node ≡ true
  pub names : (i : ℕ) → own_names O2.row O2.desk i ≡ true → (i ≡ j) ⊎ (own_names O.row O.desk i ≡ true)

-- The call finds no room: what its step took in the tree is given back.
pub record Mending (h : ℕ) (v u : World) (M : Own) : Type 0 where
  pub fair : Fair h v u
  pub bad : u.clean ≡ false
  pub owned : own_of h u ≡ M

-- What the hart has then.
pub record Back (O0 O2 M : Own) : Type 0 where
  pub stays : Stays M O0
  pub inodes : M.inodes ≡ O2.inodes
  pub refs : M.mine.refs ≡ O2.mine.refs
  pub walk : M.mine.walk ≡ None
  pub pending : M.mine.pending ≡ None
  pub full : M.desk.full ≡ true

pub stays_same : (R O1 O0 : Own) → R.row ≡ O1.row → R.ninodes ≡ O1.ninodes → R.desk ≡ O1.desk → Stays O1 O0 → Stays R O0
stays_same R O1 O0 row ninodes desk s = record {
  row = row ∙ s.row;
  ninodes = ninodes ∙ s.ninodes;
  fds = ap (λ (z : Desk). z.fds) desk ∙ s.fds;
  hand = ap (λ (z : Desk). z.hand) desk ∙ s.hand;
  joined = ap (λ (z : Desk). z.joined) desk ∙ s.joined;
  directory = ap (λ (z : Desk). z.directory) desk ∙ s.directory;
  lent = ap (λ (z : Desk). z.lent) desk ∙ s.lent;
  lender = ap (λ (z : Desk). z.lender) desk ∙ s.lender;
  opening = ap (λ (z : Desk). z.opening) desk ∙ s.opening;
  left = ap (λ (z : Desk). z.left) desk ∙ s.left;
}

-- Its walk was lost.
pub record Gone (h : ℕ) (base : ℕ → ℕ) (ns : List ℕ) (O0 O : Own) (w : World) : Type 0 where
  pub owns : own_of h w ≡ O
  pub stays : Stays O O0
  pub walk : O.mine.walk ≡ None
  pub pending : O.mine.pending ≡ None
  pub refs : (i : ℕ) → O.mine.refs i ≡ base i + times i ns
  pub listed : Listed O base ns

-- What a walk finds of its hart at the beginning.
pub record Ready (base : ℕ → ℕ) (O0 : Own) : Type 0 where
  pub free : O0.desk.lender ≡ None
  pub joined : O0.desk.joined ≡ true
  pub opening : O0.desk.opening ≡ None
  pub left : O0.desk.left ≡ None
  pub hold : KeepsHold O0.row.hold
  pub spare : (i : ℕ) → own_names O0.row O0.desk i ≡ true → 0 < base i
  pub few : (i : ℕ) → base i ≤ 2

-- with the reference of one directory these are few
pub few_listed : {base : ℕ → ℕ} {ns : List ℕ} {O0 O : Own} → Ready base O0 → Listed O base ns → (d i : ℕ) → base i + times i ns + one_if (d == i) < reference_limit
few_listed ready l d i = let a = ready.few i in let b = l.once i in let c = one_most (d == i) in omega (arith, a, b, c)

-- a walk was lost by its step, or no place was left in memory
abbrev pub Lost : (List Step → Type 0) → WalkStop → List Step → Own → Type 0
Lost V NotThere es O = V es
Lost V NoMemory es O = O.desk.full ≡ true

dead_look : (c : Option Node) (d : ℕ) (e : Name) → live_directory c ≡ false → look (λ j. c) d e ≡ None
unfolding look
dead_look c d e q = rw q refl

module _ (version : Version) (h : ℕ) (s : Action) (B : List Step → Type 0) (Q : Reply → List Step → World → Type 0) (W V : List Step → Type 0) (base : ℕ → ℕ) (O0 : Own) (K : ℕ) (lt : h < hart_count) (ready : Ready base O0) (lost : WalkStop → List ℕ → P Reply)
    (loses : (why : WalkStop) (ms : List ℕ) (l : ℕ) (es : List Step) (u : World) (R : Own) → 971 * length ms + K ≤ l → Gone h base ms O0 R u → Lost V why es R → Safe (machine version) h B Q (lost why ms) l es u)
    (look_more : (es : List Step) → W es → W (record { move = Look 0; told = None } ∷ es) × B (record { move = Look 0; told = None } ∷ es))
    (look_lost : (es : List Step) → W es → V (record { move = Look 0; told = Some (fail s) } ∷ es) × B (record { move = Look 0; told = Some (fail s) } ∷ es))
    (quit_lost : (es : List Step) → W es → V (record { move = GiveUpWalk s; told = Some (fail s) } ∷ es) × B (record { move = GiveUpWalk s; told = Some (fail s) } ∷ es))
    (none_refused : (b : Tree) → refusal_with version b h s None None ≡ Some NoEntry) (stays : (b : Tree) → refused b h s ≡ b) (place : (t : Tree) → row_of t h ≡ O0.row → IsInPlace t h s) (other : (g : ℕ) → s ≡ Inherit g → ⊥) (finds_none : found_by s None ≡ None) where
  -- the directory at which it was lost is given up
  pub s-lose : (why : WalkStop) (d : ℕ) (ns : List ℕ) (c : Option Node) (n : ℕ) (es : List Step) (w : World) (O O1 : Own) → own_of h w ≡ O1 → Stays O1 O0 → Stays O O0 → 973 + 971 * length ns + K ≤ n → O1.inodes ≡ put O.inodes d (Some (locked_held c)) → O.inodes d ≡ None → Listed O base ns → O1.mine.pending ≡ None → O1.mine.walk ≡ None
      → ((i : ℕ) → O1.mine.refs i ≡ base i + times i ns + one_if (d == i)) → ((i : ℕ) → 0 < times i ns → O1.mine.refs i ≡ O.mine.refs i) → Lost V why es O1
      → Safe (machine version) h B Q (leave_directory d ns (lost why)) n es w
  s-lose why d ns c n es w O O1 owns st st0 few inodes out l pending walk refs same told =
      s-leave-directory version d ns c (λ i. base i + times i ns) base owns (st.lender ∙ ready.free) lt (omega (arith, few)) inodes out l pending refs same (λ i. names_stay O1 O0 st i ∙ sym (names_stay O O0 st0 i)) may
      (λ l2 ms R u q len own refs2 walk2 pending2 row desk ninodes listed there here. loses why ms l2 es u R (omega (arith, q, len, few))
      (record {
        owns = own;
        stays = stays_same R O1 O0 row ninodes desk st;
        walk = walk2 ∙ walk;
        pending = pending2 ∙ pending;
        refs = λ i. let a = refs2 i in omega (arith, a);
        listed = listed;
      }) (told_on why R desk told))
    where
      may : (0 < base d + times d ns) ⊎ ((own_names O1.row O1.desk d ≡ false) × ((y : Walk) → O1.mine.walk ≡ Some y → y.at ≢ d))
      may = elim (either (own_names O1.row O1.desk d)) [ inl y ↦ inl (let a = ready.spare d (sym (names_stay O1 O0 st d) ∙ y) in omega (arith, a)) | inr y ↦ inr (y, λ z q. absurd (cc (q, walk))) ]

      told_on : (why : WalkStop) (R : Own) → R.desk ≡ O1.desk → Lost V why es O1 → Lost V why es R
      told_on NotThere R e t = t
      told_on NoMemory R e t = ap (λ (z : Desk). z.full) e ∙ t

  -- A name is looked up, of which these elements come after: the walk is lost here, or the name is found.
  s-look : (r : List Name) (par : Option (ℕ × Name)) (d : ℕ) (e : Name) (ns : List ℕ) (n : ℕ) (es : List Step) (w : World) (O : Own) (go : ℕ → List ℕ → P Reply) → 2600 + 971 * length ns + K ≤ n → On version h s d e r base ns O0 O w → W es
      → ((b : Tree) (id : ℕ) → looked version b h (record { step = s; at = d; next = e; rest = r }) r None 0 id ≡ acts version b h s None par 0 id)
      → ((m m' : Stage) (t : Option Deed) → Acts version m h s None par 0 t m' → LookupLeadsTo version m h (record { step = s; at = d; next = e; rest = r }) r None 0 t m') → ((b : Tree) → refusal_with version b h s None par ≡ Some NoEntry)
      → ((u : World) (c : Option Node) (j : ℕ) → Inv u → own_of h u ≡ record O { inodes = put O.inodes d (Some (locked_held c)) } → live_directory c ≡ true → look (λ i. c) d e ≡ Some j → MoveFine version h look_cost n B Q es u (Look 0) (walk_step d ns go lost (Some j)))
      → Safe (machine version) h B Q (Do (Take d (AtName e)) (looks_or_quits s) (λ x. walk_step d ns go lost x.found)) n es w
  s-look r par d e ns n es w O go few on told same plays refusal finds =
      s-take-then version on.owns free_o lt (omega (arith, few)) on.out (on_refers version on) (λ v inv ov. known_there h d v O inv ov lt on.out (on_refers version on) on.known) on.names.0 (λ u c inv own1. seen u c inv own1 (live_directory c) refl)
    where
      y : Walk
      y = record { step = s; at = d; next = e; rest = r }

      free_o : O.desk.lender ≡ None
      free_o = on.stays.lender ∙ ready.free

      O1 : Option Node → Own
      O1 c = record O { inodes = put O.inodes d (Some (locked_held c)) }

      isd : (c : Option Node) → (O1 c).inodes d ≡ Some (locked_held c)
      isd c = put_same O.inodes d (Some (locked_held c))

      Goal : World → Option Node → Option Mark → Option ℕ → Type 0
      Goal u c m f = Fine (machine version) h (places version h (Take d (AtName e)) (seen_in version d (AtName e) c) m u) look_cost n B es u (marked version h m u) (λ l. Wp (machine version) h B Q (walk_step d ns go lost f) l (onto (own h (places version h (Take d (AtName e)) (seen_in version d (AtName e) c) m u)) es) (marked version h m u))

      mark_is : (c : Option Node) (b : Bool) → live_directory c ≡ b → looks_or_quits s (seen_in version d (AtName e) c) ≡ (if b then makes (Look 0) else makes (GiveUpWalk s))
      mark_is c b q = λ z. if (live_face version c ∙ q) z then makes (Look 0) else makes (GiveUpWalk s)

      stays_on : (c : Option Node) → Stays (record (O1 c) { mine = record { refs = O.mine.refs; walk = None; pending = None } }) O0
      stays_on c = stays_same (record (O1 c) { mine = record { refs = O.mine.refs; walk = None; pending = None } }) O O0 refl refl refl on.stays

      seen : (u : World) (c : Option Node) → Inv u → own_of h u ≡ O1 c → (b : Bool) → live_directory c ≡ b → Goal u c (looks_or_quits s (seen_in version d (AtName e) c)) (look (λ j. c) d e)
      seen u c inv own1 false dead =
          subst (λ (m : Option Mark). Goal u c m (look (λ j. c) d e)) (sym (mark_is c false dead))
          (subst (λ (f : Option ℕ). Goal u c (makes (GiveUpWalk s)) f) (sym (dead_look c d e dead))
          (quit_good version h look_cost n d B Q es u (O1 c) (locked_held c) y (leave_directory d ns (lost NotThere)) own1 free_o lt inv on.walk on.pending refl (isd c) dead (quit_lost es told).1 (omega (arith, few)) (λ l2 u2 q2 own2.
          s-lose NotThere d ns c l2 (record { move = GiveUpWalk s; told = Some (fail s) } ∷ es) u2 O _ own2 (stays_on c) on.stays (omega (arith, q2, few)) refl on.out on.listed refl refl on.refs (λ i t. refl) (quit_lost es told).0)))
      seen u c inv own1 true live =
          subst (λ (m : Option Mark). Goal u c m (look (λ j. c) d e)) (sym (mark_is c true live)) (found u c inv own1 live (look (λ j. c) d e) refl)
        where
          found : (u : World) (c : Option Node) → Inv u → own_of h u ≡ O1 c → live_directory c ≡ true → (f : Option ℕ) → look (λ j. c) d e ≡ f → Goal u c (makes (Look 0)) f
          found u c inv own1 live None is =
              look_refused_good version h look_cost n d B Q es u (O1 c) (locked_held c) y None NoEntry None par (leave_directory d ns (lost NotThere)) own1 free_o lt inv on.walk on.pending refl (isd c) live is same plays
              (λ b q. refusal b) stays (λ t q. place t (q ∙ on.stays.row)) other finds_none (look_lost es told).1 (omega (arith, few)) (λ l2 u2 q2 own2.
              s-lose NotThere d ns c l2 (record { move = Look 0; told = Some (fail s) } ∷ es) u2 O _ own2 (stays_on c) on.stays (omega (arith, q2, few)) refl on.out on.listed refl refl on.refs (λ i t. refl) (look_lost es told).0)
          found u c inv own1 live (Some j) is = finds u c j inv own1 live is

  -- What was found is referred to, and the directory let go. P0: what the hart has since the lookup; M: what it has if
  -- there is no room for the reference.
  pub s-arrive : (C d j : ℕ) (c : Option Node) (k : Option Walk) (ns : List ℕ) (n : ℕ) (es : List Step) (u : World) (O O2 P0 M : Own) (go : ℕ → List ℕ → P Reply) → own_of h u ≡ O2 → 980 + C + 971 * length ns + K ≤ n
      → Stays O O0 → Listed O base ns → O.inodes d ≡ None → ((i : ℕ) → O.mine.refs i ≡ base i + times i ns + one_if (d == i)) → Finds d j c k O O2 → Stays O2 P0 → P0.desk.lender ≡ None
      → ((v : World) → Inv v → own_of h v ≡ O2 → Mending h v (mended h v) M) → Back O0 O2 M
      → ((ms : List ℕ) (l : ℕ) (u : World) (R : Own) → C + 971 * length ms + K ≤ l → At h j base ms k O2.desk.noted P0 R u → Safe (machine version) h B Q (go j ms) l es u)
      → Safe (machine version) h B Q (walk_step d ns go lost (Some j)) n es u
  s-arrive C d j c k ns n es u O O2 P0 M go own2 few st0 listed out refs f st free0 full back arrives =
      s-up version own2 free lt (omega (arith, few)) refl (inl f.pending) (inr f.pending) (λ m q e. inr f.pending) (let a = ap (λ (z : ℕ → ℕ). z j) f.refs in let b = refs j in let c = few_listed ready listed d j in omega (arith, a, b, c))
      (λ l3 u3 q3 own3.
      s-leave-directory version d ns c x base {O = record O2 { inodes = O.inodes }} own3 free lt (omega (arith, q3, few)) f.inodes out listed2 refl refs3 (λ i p. put_other O2.mine.refs j (O2.mine.refs j + 1) i (not_j i p)) (λ i. refl) may
      (λ l4 ms R u4 q4 len own4 refs4 walk4 pending4 row4 desk4 ninodes4 listed4 there here. arrives ms l4 u4 R (omega (arith, q3, q4, len, few)) (record {
        owns = own4;
        stays = stays_same R O2 P0 row4 ninodes4 desk4 st;
        noted = ap (λ (z : Desk). z.noted) desk4;
        walk = walk4 ∙ f.walk;
        pending = pending4;
        refs = λ i. let b = refs4 i in omega (arith, b);
        listed = listed4;
        out = elim (same_or j d) [ inl q ↦ ap R.inodes q ∙ here (let o : one_if (j == d) ≡ 1 = ap (λ (z : ℕ). one_if (z == d)) q ∙ one_at d in omega (arith, o)) | inr ne ↦ there j ne ∙ out_j (O.inodes j) refl ];
      })))
      (λ v inv ov. let m = full v inv ov in
      spoilt version m.fair m.bad (omega (arith, few)) (λ l3 q3.
      (s-lose NoMemory d ns c l3 es (mended h v) O M m.owned back.stays st0 (omega (arith, q3, few)) (back.inodes ∙ f.inodes) out listed back.pending back.walk (λ i. ap (λ (z : ℕ → ℕ). z i) (back.refs ∙ f.refs) ∙ refs i) (λ i t. ap (λ (z : ℕ → ℕ). z i) (back.refs ∙ f.refs)) back.full).wp))
    where
      free : O2.desk.lender ≡ None
      free = st.lender ∙ free0

      x : ℕ → ℕ
      x i = base i + times i ns + one_if (j == i)

      lives_not : (o : Option Held) → O.inodes j ≡ o → o ≡ None
      lives_not None q = refl
      lives_not (Some z) q = absurd (
          let i = f.lives z q in
          let b = listed.all j (listed.only j z q) in
          let p : Some (listed_held b.node) ≡ Some z = sym b.is ∙ q in
          let g : listed_held b.node ≡ z = cc in
          let l : is_live z.node ≡ false = ap (λ (y : Held). is_live y.node) (sym g) ∙ b.dead in
          cc (i, l))

      out_j : (o : Option Held) → O.inodes j ≡ o → O.inodes j ≡ None
      out_j o q = q ∙ lives_not o q

      not_j : (i : ℕ) → 0 < times i ns → i ≢ j
      not_j i p q = absurd (let b = (listed.all i p).is in let l : O.inodes i ≡ None = ap O.inodes q ∙ out_j (O.inodes j) refl in cc (b, l))

      listed2 : Listed (record O2 { inodes = O.inodes }) base ns
      listed2 = listed_among O (record O2 { inodes = O.inodes }) base ns listed (λ i. refl) (λ i t. ap (λ (z : ℕ → ℕ). z i) f.refs) (λ i t q. elim (either (own_names O2.row O2.desk i)) [
        | inr y ↦ y
        | inl y ↦ elim (f.names i y) [ inl e ↦ absurd (not_j i t e) | inr a ↦ absurd (cc (a, q)) ]
      ])

      refs3 : (i : ℕ) → put O2.mine.refs j (O2.mine.refs j + 1) i ≡ x i + one_if (d == i)
      refs3 i = let g = refs i in let y = ap (λ (z : ℕ → ℕ). z i) f.refs in elim (same_or i j) [
        | inl q ↦ (let b : put O2.mine.refs j (O2.mine.refs j + 1) i ≡ O2.mine.refs j + 1 = ap (put O2.mine.refs j (O2.mine.refs j + 1)) q ∙ put_same O2.mine.refs j (O2.mine.refs j + 1) in let o : one_if (j == i) ≡ 1 = ap (λ (z : ℕ). one_if (j == z)) q ∙ one_at j in let l : O2.mine.refs i ≡ O2.mine.refs j = ap O2.mine.refs q in omega (arith, g, y, b, o, l))
        | inr ne ↦ (let b = put_other O2.mine.refs j (O2.mine.refs j + 1) i ne in let o = one_else j i ne in omega (arith, g, y, b, o))
      ]

      may : (0 < x d) ⊎ ((own_names O2.row O2.desk d ≡ false) × ((z : Walk) → O2.mine.walk ≡ Some z → z.at ≢ d))
      may = elim (same_or j d) [
        | inl q ↦ inl (let o : one_if (j == d) ≡ 1 = ap (λ (z : ℕ). one_if (z == d)) q ∙ one_at d in omega (arith, o))
        | inr ne ↦ elim (either (own_names O2.row O2.desk d)) [
          | inl y ↦ inl (elim (f.names d y) [ inl e ↦ absurd (ne (sym e)) | inr a ↦ (let b = ready.spare d (sym (names_stay O O0 st0 d) ∙ a) in omega (arith, b)) ])
          | inr y ↦ inr (y, λ z is q. absurd (ne (sym (f.lands z (sym f.walk ∙ is)) ∙ q)))
        ]
      ]

  -- One element: the walk goes on to what is found, or is lost here.
  s-walk-one : (C : ℕ) (a : Name) (r : List Name) (d : ℕ) (e : Name) (ns : List ℕ) (n : ℕ) (es : List Step) (w : World) (O : Own) (go : ℕ → List ℕ → P Reply) → 2600 + C + 971 * length ns + K ≤ n → On version h s d e (a ∷ r) base ns O0 O w → W es
      → ((j : ℕ) (ms : List ℕ) (l : ℕ) (fs : List Step) (u : World) (R : Own) → C + 971 * length ms + K ≤ l → On version h s j a r base ms O0 R u → W fs → Safe (machine version) h B Q (go j ms) l fs u)
      → Safe (machine version) h B Q (Do (Take d (AtName e)) (looks_or_quits s) (λ x. walk_step d ns go lost x.found)) n es w
  s-walk-one C a r d e ns n es w O go few on told again =
      s-look (a ∷ r) None d e ns n es w O go (omega (arith, few)) on told (λ b i. refl) (λ m m' t q. q) none_refused (λ u c j inv own1 live is.
      look_on_good version h look_cost n d B Q es u (O1 c) (locked_held c) (record { step = s; at = d; next = e; rest = a ∷ r }) a r j (walk_step d ns go lost (Some j)) own1 free_o lt inv on.walk on.pending refl (put_same O.inodes d (Some (locked_held c))) live refl is (look_more es told).1 (omega (arith, few)) (λ l2 t u2 q2 lives own2 notes what.
      s-arrive C d j c (Some (record { step = s; at = j; next = a; rest = r })) ns l2 (record { move = Look 0; told = None } ∷ es) u2 O (O2 c j t) O0 (M c j t) go own2 (omega (arith, q2, few)) on.stays on.listed on.out on.refs
      (record {
        inodes = refl;
        refs = refl;
        walk = refl;
        lands = λ y q. let g : record { step = s; at = j; next = a; rest = r } ≡ y = cc in ap (λ (k : Walk). k.at) (sym g);
        pending = refl;
        lives = λ z q. lives z (put_other O.inodes d (Some (locked_held c)) j (λ k. absurd (let m : O.inodes j ≡ None = ap O.inodes k ∙ on.out in cc (m, q))) ∙ q);
        names = λ i q. inr q;
      })
      (stays_on c j t) ready.free
      (λ v inv2 ov. let m = mends h v (O2 c j t) ov free_o lt inv2 (on.stays.opening ∙ ready.opening) (on.stays.left ∙ ready.left) (subst (λ (z : Row). KeepsHold z.hold) (sym on.stays.row) ready.hold) (λ i q. let b = ready.spare i (sym (names_stay O O0 on.stays i) ∙ q) in let f = on.refs i in omega (arith, b, f)) in record { fair = m.fair; bad = m.bad; owned = m.owned })
      (record { stays = record { row = on.stays.row; ninodes = on.stays.ninodes; fds = on.stays.fds; hand = on.stays.hand; joined = on.stays.joined; directory = on.stays.directory; lent = on.stays.lent; lender = on.stays.lender; opening = sym ready.opening; left = sym ready.left }; inodes = refl; refs = refl; walk = refl; pending = refl; full = refl })
      (λ ms l4 u4 R few4 at4. again j ms l4 (record { move = Look 0; told = None } ∷ es) u4 R few4 (record { owns = at4.owns; stays = at4.stays; walk = at4.walk; pending = at4.pending; refs = at4.refs; listed = at4.listed; out = at4.out; notes = λ m q. let i : m.number ≡ j = notes m (sym at4.noted ∙ q) in let f = at4.refs m.number in let o : one_if (j == m.number) ≡ 1 = (λ z. one_if (j == i z)) ∙ one_at j in omega (arith, f, o); known = inr (inr (what.0, at4.noted ∙ what.1, what.2, what.3)); names = on.names.1 }) (look_more es told).0)))
    where
      free_o : O.desk.lender ≡ None
      free_o = on.stays.lender ∙ ready.free

      O1 : Option Node → Own
      O1 c = record O { inodes = put O.inodes d (Some (locked_held c)) }

      O2 : Option Node → ℕ → Option Note → Own
      O2 c j t = record (O1 c) { mine = record { refs = O.mine.refs; walk = Some (record { step = s; at = j; next = a; rest = r }); pending = Some j }; desk = record (O.desk) { noted = t } }

      M : Option Node → ℕ → Option Note → Own
      M c j t = record (O2 c j t) { desk = record (O.desk) { noted = t; opening = None; left = None; full = true }; mine = record { refs = O.mine.refs; walk = None; pending = None } }

      stays_on : (c : Option Node) (j : ℕ) (t : Option Note) → Stays (O2 c j t) O0
      stays_on c j t = record { row = on.stays.row; ninodes = on.stays.ninodes; fds = on.stays.fds; hand = on.stays.hand; joined = on.stays.joined; directory = on.stays.directory; lent = on.stays.lent; lender = on.stays.lender; opening = on.stays.opening; left = on.stays.left }

  -- A walk through all its elements. The step acts at the last one, if that is found.
  pub s-walk : (r : List Name) (d : ℕ) (e : Name) (ns : List ℕ) (n : ℕ) (es : List Step) (w : World) (O : Own) (found : ℕ → List ℕ → P Reply) → 2600 * length r + 2600 + 971 * length ns + K ≤ n → On version h s d e r base ns O0 O w → W es → ((b : Tree) (q : ℕ × Name) → refusal_with version b h s None (Some q) ≡ Some NoEntry)
      → ((d : ℕ) (e : Name) (ns : List ℕ) (n : ℕ) (es : List Step) (w : World) (O : Own) → 2600 + 971 * length ns + K ≤ n → On version h s d e [] base ns O0 O w → W es
      → (u : World) (c : Option Node) (j : ℕ) → Inv u → own_of h u ≡ record O { inodes = put O.inodes d (Some (locked_held c)) } → live_directory c ≡ true → look (λ i. c) d e ≡ Some j → MoveFine version h look_cost n B Q es u (Look 0) (walk_step d ns found lost (Some j)))
      → Safe (machine version) h B Q (walk s d (e ∷ r) ns found lost) n es w
  s-walk [] d e ns n es w O found few on told missing act = s-look [] (Some (d, e)) d e ns n es w O found (omega (arith, few)) on told (λ b i. refl) (λ m m' t q. q) (λ b. missing b (d, e)) (act d e ns n es w O (omega (arith, few)) on told)
  s-walk (a ∷ r) d e ns n es w O found few on told missing act =
      s-walk-one (2600 * length r + 2600) a r d e ns n es w O (λ j ms. walk s j (a ∷ r) ms found lost) (omega (arith, few)) on told (λ j ms l fs u R few2 on2 told2. s-walk r j a ms l fs u R found (omega (arith, few2)) on2 told2 missing act)

  -- The last element's directory is seen to be one, and let go.
  s-see-parent : (d : ℕ) (e : Name) (ns : List ℕ) (n : ℕ) (es : List Step) (w : World) (O : Own) (found : List ℕ → P Reply) → 2600 + 971 * length ns + K ≤ n → On version h s d e [] base ns O0 O w → W es
      → ((l : ℕ) (u : World) (R : Own) → l + 5 ≡ n → On version h s d e [] base ns O0 R u → Safe (machine version) h B Q (found ns) l es u)
      → Safe (machine version) h B Q (see_parent s d ns found lost) n es w
  s-see-parent d e ns n es w O found few on told arrives =
      s-take-then version on.owns free_o lt (omega (arith, few)) on.out (on_refers version on) (λ v inv ov. known_there h d v O inv ov lt on.out (on_refers version on) on.known) tt (λ u c inv own1. seen u c inv own1 (is_directory_face (face_of version c)) refl)
    where
      y : Walk
      y = record { step = s; at = d; next = e; rest = [] }

      free_o : O.desk.lender ≡ None
      free_o = on.stays.lender ∙ ready.free

      O1 : Option Node → Own
      O1 c = record O { inodes = put O.inodes d (Some (locked_held c)) }

      isd : (c : Option Node) → (O1 c).inodes d ≡ Some (locked_held c)
      isd c = put_same O.inodes d (Some (locked_held c))

      Goal : World → Option Node → Bool → Type 0
      Goal u c b = Fine (machine version) h (places version h (Take d AtNothing) (seen_in version d AtNothing c) (quits_unless s b) u) 3 n B es u (marked version h (quits_unless s b) u) (λ l. Wp (machine version) h B Q (if b then Do (UnlockInode d) unmarked (λ _. found ns) else leave_directory d ns (lost NotThere)) l (onto (own h (places version h (Take d AtNothing) (seen_in version d AtNothing c) (quits_unless s b) u)) es) (marked version h (quits_unless s b) u))

      seen : (u : World) (c : Option Node) → Inv u → own_of h u ≡ O1 c → (b : Bool) → is_directory_face (face_of version c) ≡ b → Goal u c (is_directory_face (face_of version c))
      seen u c inv own1 false isnt = subst (λ (b : Bool). Goal u c b) (sym isnt)
          (quit_good version h 3 n d B Q es u (O1 c) (locked_held c) y (leave_directory d ns (lost NotThere)) own1 free_o lt inv on.walk on.pending refl (isd c) (no_directory version c isnt) (quit_lost es told).1 (omega (arith, few)) (λ l2 u2 q2 own2.
          s-lose NotThere d ns c l2 (record { move = GiveUpWalk s; told = Some (fail s) } ∷ es) u2 O _ own2 (stays_same (record (O1 c) { mine = record { refs = O.mine.refs; walk = None; pending = None } }) O O0 refl refl refl on.stays) on.stays (omega (arith, q2, few)) refl on.out on.listed refl refl on.refs (λ i t. refl) (quit_lost es told).0))
      seen u c inv own1 true holds = subst (λ (b : Bool). Goal u c b) (sym holds)
          (quiet version (fair_same inv) refl (omega (arith, few)) (λ l q.
          (s-give version {k = λ (_ : Unit {0}). found ns} own1 free_o lt (omega (arith, q, few)) (isd c) refl refl refl on.pending (λ l2 u2 q2 own2. arrives l2 u2 _ (omega (arith, q, q2)) (record {
            owns = own2;
            stays = record { row = on.stays.row; ninodes = on.stays.ninodes; fds = on.stays.fds; hand = on.stays.hand; joined = on.stays.joined; directory = on.stays.directory; lent = on.stays.lent; lender = on.stays.lender; opening = on.stays.opening; left = on.stays.left };
            walk = on.walk;
            pending = on.pending;
            refs = on.refs;
            listed = listed_on O (record (O1 c) { inodes = put (O1 c).inodes d None }) base ns on.listed (λ i. back c i) (λ i t. refl) (λ i q. q);
            out = put_same (O1 c).inodes d None;
            notes = on.notes;
            known = on.known;
            names = on.names;
          }))).wp))
        where
          back : (c : Option Node) (i : ℕ) → put (put O.inodes d (Some (locked_held c))) d None i ≡ O.inodes i
          back c i = elim (same_or i d) [
            | inl q ↦ ap (put (put O.inodes d (Some (locked_held c))) d None) q ∙ put_same (put O.inodes d (Some (locked_held c))) d None ∙ sym on.out ∙ ap O.inodes (sym q)
            | inr ne ↦ put_other (put O.inodes d (Some (locked_held c))) d None i ne ∙ put_other O.inodes d (Some (locked_held c)) i ne
          ]

  -- A walk to the last element's directory.
  pub s-walk-parent : (r : List Name) (d : ℕ) (e : Name) (ns : List ℕ) (n : ℕ) (es : List Step) (w : World) (O : Own) (found : ℕ → Name → List ℕ → P Reply) → 2600 * length r + 2600 + 971 * length ns + K ≤ n → On version h s d e r base ns O0 O w → W es
      → ((d2 : ℕ) (e2 : Name) (ms : List ℕ) (l : ℕ) (fs : List Step) (u : World) (R : Own) → 971 * length ms + K ≤ l → On version h s d2 e2 [] base ms O0 R u → W fs → Safe (machine version) h B Q (found d2 e2 ms) l fs u)
      → Safe (machine version) h B Q (walk_parent s d e r ns found lost) n es w
  s-walk-parent [] d e ns n es w O found few on told arrives = s-see-parent d e ns n es w O (found d e) (omega (arith, few)) on told (λ l u R q on2. arrives d e ns l es u R (omega (arith, q, few)) on2 told)
  s-walk-parent (a ∷ r) d e ns n es w O found few on told arrives =
      s-walk-one (2600 * length r + 2600) a r d e ns n es w O (λ j ms. walk_parent s j a r ms found lost) (omega (arith, few)) on told (λ j ms l fs u R few2 on2 told2. s-walk-parent r j a ms l fs u R found (omega (arith, few2)) on2 told2 arrives)
