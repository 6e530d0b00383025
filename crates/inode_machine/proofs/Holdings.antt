-- What a call keeps once its walk is through: its list, and the inodes that it works on.
use Rattle.image_versions.specs.declared.version.Version.{Version}
use Rattle.inode_machine.proofs.Vocabulary.{◌≡◌, ◌≢◌, ◌⊎◌, inl, inr, ℕ, ◌+◌, ◌-◌, ◌*◌, ◌<◌, ◌≤◌, true, false, ◌==◌, List, length, Option, Some, None, refl, sym, ◌∙◌, ap, subst, arith, oldest_first, Safe, Begun, Ends, Reply, Call, hart_count, Row, Name, put, Action, one_if, either, same_or, put_same, put_other, Step, IsWholeCall, Desk, World, Held, Own, own_names, own_of, nothing, machine, ThisP as P, give_up, tail, covered_calls}
use Rattle.inode_machine.proofs.Counting.{s-give}
use Rattle.inode_machine.proofs.Claiming.{Mendable}
use Rattle.inode_machine.proofs.Looks.{KeepsHold}
use Rattle.inode_machine.proofs.Drops.{s-drop}
use Rattle.inode_machine.proofs.Listing.{times, one_at, one_else, IsListed}
use Rattle.inode_machine.proofs.Walks.{Stays, names_stay, stays_same, On, Ready}
use Rattle.inode_machine.proofs.Endings.{MayRest, may_stay, s-ends}

-- Beside its list ns the hart keeps E, and has `more` references more than at the beginning.
pub record Holding (base : ℕ → ℕ) (ns : List ℕ) (O0 O : Own) (E : ℕ → Option Held) (more : ℕ → ℕ) : Type 0 where
  pub stays : Stays O O0
  pub refs : (i : ℕ) → O.mine.refs i ≡ base i + times i ns + more i
  pub all : (i : ℕ) → 0 < times i ns → IsListed O i
  pub once : (i : ℕ) → times i ns ≤ 1
  pub has : (i : ℕ) (x : Held) → E i ≡ Some x → O.inodes i ≡ Some x
  pub only : (i : ℕ) (x : Held) → O.inodes i ≡ Some x → (0 < times i ns) ⊎ (E i ≡ Some x)

-- what it doesn't keep is not in the list
pub unlisted : {base : ℕ → ℕ} {ns : List ℕ} {O0 O : Own} {E : ℕ → Option Held} {more : ℕ → ℕ} → Holding base ns O0 O E more → (d : ℕ) → O.inodes d ≡ None → times d ns ≡ 0
unlisted {ns = ns} {O = O} k d out = elim (same_or (times d ns) 0) [ inl z ↦ z | inr p ↦ absurd (let a = (k.all d (omega (arith, p))).is in cc (a, out)) ]

-- nor is what has another reference
pub unlisted_refs : {base : ℕ → ℕ} {ns : List ℕ} {O0 O : Own} {E : ℕ → Option Held} {more : ℕ → ℕ} → Holding base ns O0 O E more → (d : ℕ) → 0 < more d → times d ns ≡ 0
unlisted_refs {ns = ns} k d p = elim (same_or (times d ns) 0) [ inl z ↦ z | inr q ↦ absurd (let a = (k.all d (omega (arith, q))).one in let r = k.refs d in omega (arith, a, r, p, q)) ]

-- One inode that isn't listed changes, and the references to it.
pub holding_set : {base : ℕ → ℕ} {ns : List ℕ} {O0 O : Own} {E : ℕ → Option Held} {more : ℕ → ℕ} (R : Own) (d : ℕ) (y : Option Held) (more2 : ℕ → ℕ) → Holding base ns O0 O E more → times d ns ≡ 0 → R.inodes ≡ put O.inodes d y → Stays R O0
    → ((i : ℕ) → i ≢ d → R.mine.refs i ≡ O.mine.refs i) → ((i : ℕ) → R.mine.refs i ≡ base i + times i ns + more2 i) → Holding base ns O0 R (put E d y) more2
holding_set {base} {ns} {O0} {O} {E} {more} R d y more2 k zero inodes stays same refs = record {
  stays = stays;
  refs = refs;
  all = λ i t. let a = k.all i t in let ne = not_d i t in record {
    node = a.node;
    there = a.there;
    is = ap (λ (f : ℕ → Option Held). f i) inodes ∙ put_other O.inodes d y i ne ∙ a.is;
    dead = a.dead;
    one = same i ne ∙ a.one;
    unnamed = names_stay R O0 stays i ∙ sym (names_stay O O0 k.stays i) ∙ a.unnamed;
  };
  once = k.once;
  has = λ i x q. ap (λ (f : ℕ → Option Held). f i) inodes ∙ elim (same_or i d) [
    | inl e ↦ ap (put O.inodes d y) e ∙ put_same O.inodes d y ∙ sym (ap (put E d y) e ∙ put_same E d y) ∙ q
    | inr ne ↦ put_other O.inodes d y i ne ∙ k.has i x (sym (put_other E d y i ne) ∙ q)
  ];
  only = λ i x q. elim (same_or i d) [
    | inl e ↦ inr (ap (put E d y) e ∙ put_same E d y ∙ sym (ap (put O.inodes d y) e ∙ put_same O.inodes d y) ∙ sym (ap (λ (f : ℕ → Option Held). f i) inodes) ∙ q)
    | inr ne ↦ elim (k.only i x (sym (ap (λ (f : ℕ → Option Held). f i) inodes ∙ put_other O.inodes d y i ne) ∙ q)) [ inl t ↦ inl t | inr a ↦ inr (put_other E d y i ne ∙ a) ]
  ];
}
  where
    not_d : (i : ℕ) → 0 < times i ns → i ≢ d
    not_d i t q = absurd (let a : times i ns ≡ times d ns = ap (λ (z : ℕ). times z ns) q in omega (arith, a, zero, t))

-- Nothing but what it is working at, or what it noted, changes.
pub holding_same : {base : ℕ → ℕ} {ns : List ℕ} {O0 O : Own} {E : ℕ → Option Held} {more : ℕ → ℕ} (R : Own) → Holding base ns O0 O E more → R.inodes ≡ O.inodes → Stays R O0 → R.mine.refs ≡ O.mine.refs → Holding base ns O0 R E more
holding_same {O0 = O0} {O = O} R k inodes stays refs = record {
  stays = stays;
  refs = λ i. ap (λ (f : ℕ → ℕ). f i) refs ∙ k.refs i;
  all = λ i t. let a = k.all i t in record {
    node = a.node;
    there = a.there;
    is = ap (λ (f : ℕ → Option Held). f i) inodes ∙ a.is;
    dead = a.dead;
    one = ap (λ (f : ℕ → ℕ). f i) refs ∙ a.one;
    unnamed = names_stay R O0 stays i ∙ sym (names_stay O O0 k.stays i) ∙ a.unnamed;
  };
  once = k.once;
  has = λ i x q. ap (λ (f : ℕ → Option Held). f i) inodes ∙ k.has i x q;
  only = λ i x q. k.only i x (sym (ap (λ (f : ℕ → Option Held). f i) inodes) ∙ q);
}

-- The same beside another beginning, if what is listed is named no more than before.
pub holding_to : {base : ℕ → ℕ} {ns : List ℕ} {O0 O : Own} {E : ℕ → Option Held} {more : ℕ → ℕ} (O1 R : Own) → Holding base ns O0 O E more → R.inodes ≡ O.inodes → Stays R O1 → R.mine.refs ≡ O.mine.refs → ((i : ℕ) → 0 < times i ns → own_names O.row O.desk i ≡ false → own_names R.row R.desk i ≡ false) → Holding base ns O1 R E more
holding_to {O0 = O0} {O = O} O1 R k inodes stays refs names = record {
  stays = stays;
  refs = λ i. ap (λ (f : ℕ → ℕ). f i) refs ∙ k.refs i;
  all = λ i t. let a = k.all i t in record {
    node = a.node;
    there = a.there;
    is = ap (λ (f : ℕ → Option Held). f i) inodes ∙ a.is;
    dead = a.dead;
    one = ap (λ (f : ℕ → ℕ). f i) refs ∙ a.one;
    unnamed = names i t a.unnamed;
  };
  once = k.once;
  has = λ i x q. ap (λ (f : ℕ → Option Held). f i) inodes ∙ k.has i x q;
  only = λ i x q. k.only i x (sym (ap (λ (f : ℕ → Option Held). f i) inodes) ∙ q);
}

-- a locked inode that is as its node says
pub record IsWhole (x : Held) : Type 0 where
  pub locked : x.locked ≡ true
  pub shared : x.alone ≡ false
  pub same : x.disk ≡ x.node

-- An inode is given up, and the reference to it dropped.
pub s-give-up-in : (version : Version) {A : Type 0} {h : ℕ} (d : ℕ) {x : Held} {base : ℕ → ℕ} {ns : List ℕ} {O0 : Own} {E : ℕ → Option Held} {more : ℕ → ℕ} {k : P A} {B : List Step → Type 0} {Q : A → List Step → World → Type 0} {n : ℕ} {es : List Step} {w : World} {O : Own}
    → own_of h w ≡ O → h < hart_count → O0.desk.lender ≡ None → O0.desk.joined ≡ true → (own_names O0.row O0.desk d ≡ true → 0 < base d + more d) → 904 < n → Holding base ns O0 O E (λ i. more i + one_if (d == i)) → O.mine.walk ≡ None → O.mine.pending ≡ None → E d ≡ Some x → IsWhole x
    → ((l : ℕ) (u : World) (R : Own) → n ≤ l + 905 → own_of h u ≡ R → R.desk ≡ O.desk → R.mine.walk ≡ None → R.mine.pending ≡ None → Holding base ns O0 R (put E d None) more → Safe (machine version) h B Q k l es u)
    → Safe (machine version) h B Q (give_up d k) n es w
s-give-up-in version d {x} {base} {ns} {O0} {E} {more} {O = O} owns lt free joined spare few k walk none isd whole rest =
    s-give version owns (k.stays.lender ∙ free) lt (omega (arith, few)) (k.has d x isd) whole.locked whole.shared whole.same none (λ l1 u1 q1 own1.
    s-drop version d own1 (k.stays.lender ∙ free) lt (omega (arith, few, q1)) (k.stays.joined ∙ joined) (put_same O.inodes d None) (let r = k.refs d in let o = one_at d in omega (arith, r, o)) none walk may (λ l2 u2 q2 own2.
    rest l2 u2 _ (omega (arith, q1, q2)) own2 refl walk none
    (holding_set (record O { inodes = put O.inodes d None; mine = record { refs = put O.mine.refs d (O.mine.refs d - 1); walk = O.mine.walk; pending = O.mine.pending } }) d None more k
    (unlisted_refs k d (let o = one_at d in omega (arith, o))) refl (stays_same _ O O0 refl refl refl k.stays) (λ i ne. put_other O.mine.refs d (O.mine.refs d - 1) i ne) (λ i. fewer i))))
  where
    may : (1 < O.mine.refs d) ⊎ (own_names O.row O.desk d ≡ false)
    may = elim (either (own_names O.row O.desk d)) [ inl y ↦ inl (let a = spare (sym (names_stay O O0 k.stays d) ∙ y) in let r = k.refs d in let o = one_at d in omega (arith, a, r, o)) | inr y ↦ inr y ]

    fewer : (i : ℕ) → put O.mine.refs d (O.mine.refs d - 1) i ≡ base i + times i ns + more i
    fewer i = let r = k.refs i in elim (same_or i d) [
      | inl q ↦ (let a : put O.mine.refs d (O.mine.refs d - 1) i ≡ O.mine.refs d - 1 = ap (put O.mine.refs d (O.mine.refs d - 1)) q ∙ put_same O.mine.refs d (O.mine.refs d - 1) in let b : O.mine.refs i ≡ O.mine.refs d = ap O.mine.refs q in let o : one_if (d == i) ≡ 1 = ap (λ (z : ℕ). one_if (d == z)) q ∙ one_at d in omega (arith, a, b, o, r))
      | inr ne ↦ (let a = put_other O.mine.refs d (O.mine.refs d - 1) i ne in let o = one_else d i ne in omega (arith, a, o, r))
    ]

-- the same in a call that has just joined
pub s-give-up : (version : Version) {A : Type 0} {h : ℕ} (d : ℕ) {x : Held} {base : ℕ → ℕ} {ns : List ℕ} {O0 : Own} {E : ℕ → Option Held} {more : ℕ → ℕ} {k : P A} {B : List Step → Type 0} {Q : A → List Step → World → Type 0} {n : ℕ} {es : List Step} {w : World} {O : Own}
    → own_of h w ≡ O → h < hart_count → Ready base O0 → 904 < n → Holding base ns O0 O E (λ i. more i + one_if (d == i)) → O.mine.walk ≡ None → O.mine.pending ≡ None → E d ≡ Some x → IsWhole x
    → ((l : ℕ) (u : World) (R : Own) → n ≤ l + 905 → own_of h u ≡ R → R.desk ≡ O.desk → R.mine.walk ≡ None → R.mine.pending ≡ None → Holding base ns O0 R (put E d None) more → Safe (machine version) h B Q k l es u)
    → Safe (machine version) h B Q (give_up d k) n es w
s-give-up version d owns lt ready few k walk none isd whole rest = s-give-up-in version d owns lt ready.free ready.joined (λ q. let a = ready.spare d q in omega (arith, a)) few k walk none isd whole rest

-- What a hart that rests has once it has joined.
pub record HasJoined (base : ℕ → ℕ) (O0 : Own) : Type 0 where
  pub ready : Ready base O0
  pub may : MayRest O0 base

-- the call found no room, or its steps are written
abbrev pub IsAnswerable : Call → Reply → List Step → Own → Type 0
IsAnswerable c r es O = (O.desk.full ≡ true) ⊎ IsWholeCall c (oldest_first es) r

-- The call ends.
pub s-end : (version : Version) (h : ℕ) (c : Call) (r : Reply) {base : ℕ → ℕ} {O0 : Own} (ns : List ℕ) (E : ℕ → Option Held) (more : ℕ → ℕ) (n : ℕ) (es : List Step) (w : World) (O : Own) → h < hart_count → HasJoined base O0 → own_of h w ≡ O → 971 * length ns + 63 < n → Holding base ns O0 O E more → ((i : ℕ) → E i ≡ None) → ((i : ℕ) → more i ≡ 0) → O.mine.walk ≡ None → O.mine.pending ≡ None → IsAnswerable c r es O
    → Safe (machine version) h (Begun (covered_calls version) c) (Ends (covered_calls version) h c) (tail ns r) n es w
s-end version h c r {base} {O0} ns E more n es w O lt joins owns few k empty no_more walk none told =
    s-ends version h c r base ns n es w O owns (k.stays.lender ∙ joins.ready.free) lt few (k.stays.joined ∙ joins.ready.joined)
    (record { all = k.all; only = λ i x q. elim (k.only i x q) [ inl t ↦ t | inr e ↦ absurd (let a = empty i in cc (a, e)) ]; once = k.once })
    (λ i. let a = k.refs i in let z = no_more i in omega (arith, a, z)) walk none (may_stay O O0 base k.stays joins.may) told

-- A walk has come to its last name's directory, of which the hart has a reference and no lock.
pub holding_on : (version : Version) (h : ℕ) (s : Action) (d : ℕ) (e : Name) (r : List Name) (base : ℕ → ℕ) (ns : List ℕ) (O0 O : Own) (w : World) → On version h s d e r base ns O0 O w → Holding base ns O0 O nothing (λ i. 0 + one_if (d == i))
holding_on version h s d e r base ns O0 O w on = record {
  stays = on.stays;
  refs = λ i. let f = on.refs i in omega (arith, f);
  all = on.listed.all;
  once = on.listed.once;
  has = λ i x q. absurd cc;
  only = λ i x q. inl (on.listed.only i x q);
}

-- It may find no room.
pub mendable : {base : ℕ → ℕ} {ns : List ℕ} {O0 O : Own} {E : ℕ → Option Held} {more : ℕ → ℕ} → Ready base O0 → Holding base ns O0 O E more → Mendable O
mendable {base} {ns} {O0} {O} {E} {more} ready k = record {
  opening = k.stays.opening ∙ ready.opening;
  left = k.stays.left ∙ ready.left;
  hold = subst (λ (z : Row). KeepsHold z.hold) (sym k.stays.row) ready.hold;
  names = λ i q. let b = ready.spare i (sym (names_stay O O0 k.stays i) ∙ q) in let f = k.refs i in omega (arith, b, f);
}

-- what it has then stays too
pub stays_mended : (R : Own) {base : ℕ → ℕ} {O0 O : Own} → Ready base O0 → Stays O O0 → R.row ≡ O.row → R.ninodes ≡ O.ninodes → R.desk ≡ record (O.desk) { opening = None; left = None; full = true } → Stays R O0
stays_mended R ready s row ninodes desk = record {
  row = row ∙ s.row;
  ninodes = ninodes ∙ s.ninodes;
  fds = ap (λ (z : Desk). z.fds) desk ∙ s.fds;
  hand = ap (λ (z : Desk). z.hand) desk ∙ s.hand;
  joined = ap (λ (z : Desk). z.joined) desk ∙ s.joined;
  directory = ap (λ (z : Desk). z.directory) desk ∙ s.directory;
  lent = ap (λ (z : Desk). z.lent) desk ∙ s.lent;
  lender = ap (λ (z : Desk). z.lender) desk ∙ s.lender;
  opening = ap (λ (z : Desk). z.opening) desk ∙ sym ready.opening;
  left = ap (λ (z : Desk). z.left) desk ∙ sym ready.left;
}

-- The directory alone is locked: it is given up, and the call ends.
pub s-give-end : (version : Version) (h : ℕ) (c : Call) (r : Reply) {x : Held} {base : ℕ → ℕ} {O0 : Own} (ns : List ℕ) (E : ℕ → Option Held) (d n : ℕ) (es : List Step) (w : World) (O : Own) → h < hart_count → HasJoined base O0 → own_of h w ≡ O → 971 * length ns + 970 < n → Holding base ns O0 O E (λ i. 0 + one_if (d == i)) → E d ≡ Some x → IsWhole x → ((i : ℕ) → i ≢ d → E i ≡ None)
    → O.mine.walk ≡ None → O.mine.pending ≡ None → IsAnswerable c r es O
    → Safe (machine version) h (Begun (covered_calls version) c) (Ends (covered_calls version) h c) (give_up d (tail ns r)) n es w
s-give-end version h c r {x} {base} {O0} ns E d n es w O lt joins owns few k isd whole else_ walk none told =
    s-give-up version d {more = λ i. 0} owns lt joins.ready (omega (arith, few)) k walk none isd whole (λ l u R q own2 desk walk2 none2 k2.
    s-end version h c r ns (put E d None) (λ i. 0) l es u R lt joins own2 (omega (arith, few, q)) k2 (λ i. elim (same_or i d) [ inl e ↦ ap (put E d None) e ∙ put_same E d None | inr ne ↦ put_other E d None i ne ∙ else_ i ne ]) (λ i. refl) walk2 none2
    (elim told [ inl f ↦ inl (ap (λ (z : Desk). z.full) desk ∙ f) | inr a ↦ inr a ]))
