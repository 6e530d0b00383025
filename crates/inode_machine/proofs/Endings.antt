-- How a call on a path ends: what it heard, what it gives up, and what it has then.
use Rattle.image_versions.specs.declared.version.Version.{Version}
use Rattle.inode_machine.proofs.Vocabulary.{◌≡◌, ◌≢◌, ◌⊎◌, inl, inr, ℕ, ◌+◌, ◌-◌, ◌*◌, ◌<◌, ◌≤◌, Bool, true, false, ◌==◌, ◌||◌, List, [], ◌∷◌, ◌++◌, length, Option, Some, None, refl, sym, ◌∙◌, ap, subst, arith, onto, oldest_first, Safe, Begun, Ends, onto_is, NoEntry, Reply, Call, Node, Action, Failed, Act, next_of, hart_count, put, hold_names, Row, key_names, Hold, holds_raised, one_if, one_yes, either, same_or, put_same, put_other, Deed, Step, Move, begins, fail, IsNext, MayEnd, IsPlayed, IsWholeCall, Begin, Look, GiveUpWalk, Desk, World, InodeType, type_of, face_of, is_directory_face, is_directory_type, is_at, Own, Held, key_in, nothing, own_names, own_of, Idle, Inv, Rests, left_or, machine, ThisP as P, WalkStop, NotThere, NoMemory, failed, give_up, stopped, tail, covered_calls}
use Rattle.inode_machine.proofs.Rules.{locked_held}
use Rattle.inode_machine.proofs.SoFar.{played_so_far}
use Rattle.inode_machine.proofs.Counting.{s-give, one_most}
use Rattle.inode_machine.proofs.Drops.{s-drop}
use Rattle.inode_machine.proofs.Listing.{times, one_at, one_else, Listed, listed_among, Through, s-tail}
use Rattle.inode_machine.proofs.Looks.{KeepsHold}
use Rattle.inode_machine.proofs.Walks.{Stays, Gone, Ready, Lost}

-- What a call heard.

-- these moves were made, the newest first, and reported these acts to the call: what may come after the acts comes
-- after the moves
abbrev pub Walked : Call → List Act → List Step → Type 0
Walked c acts es = (xs : List Step) (r : Reply) → IsPlayed c acts xs r → IsPlayed c [] (onto es xs) r

abbrev pub looks : Move → Step
looks v = record { move = v; told = None }

abbrev pub tells : Move → Deed → Step
tells v d = record { move = v; told = Some d }

pub walked_look : (c : Call) (acts : List Act) (es : List Step) → Walked c acts es → Walked c acts (looks (Look 0) ∷ es)
walked_look c acts es w = λ xs r p. w (looks (Look 0) ∷ xs) r (tt, p)

pub walked_begin : (c : Call) (acts : List Act) (s : Action) (es : List Step) → next_of c acts ≡ Some s → Walked c acts es → Walked c acts (looks (Begin s 0) ∷ es)
walked_begin c acts s es next w = λ xs r p. w (looks (Begin s 0) ∷ xs) r (next, p)

pub walked_tells : (c : Call) (acts : List Act) (v : Move) (d : Deed) (es : List Step) → IsNext c acts (begins v) → Walked c acts es → Walked c (acts ++ d.act ∷ []) (tells v d ∷ es)
walked_tells c acts v d es next w = λ xs r p. w (tells v d ∷ xs) r (next, p)

-- they begin the call, if something may come after them
pub walked_begun : (version : Version) (c : Call) (acts : List Act) (es xs : List Step) (r : Reply) → Walked c acts es → IsPlayed c acts xs r → Begun (covered_calls version) c es
walked_begun version c acts es xs r w p = played_so_far c [] (oldest_first es) xs r (subst (λ (z : List Step). IsPlayed c [] z r) (onto_is es xs) (w xs r p))

abbrev pub missed : Action → Act
missed s = record { step = s; answer = Failed NoEntry }

-- A call whose path is one step's; it ends if nothing is found for it.
pub record Follows (c : Call) (s : Action) : Type 0 where
  pub first : next_of c [] ≡ Some s
  pub missing : MayEnd c (missed s ∷ []) (failed c NoEntry)

pub follows_look : (version : Version) (c : Call) (s : Action) → Follows c s → (es : List Step) → Walked c [] es → Walked c [] (looks (Look 0) ∷ es) × Begun (covered_calls version) c (looks (Look 0) ∷ es)
follows_look version c s f es w = (walked_look c [] es w, walked_begun version c [] (looks (Look 0) ∷ es) (tells (Look 0) (fail s) ∷ []) (failed c NoEntry) (walked_look c [] es w) (tt, f.missing))

pub follows_lost : (version : Version) (c : Call) (s : Action) → Follows c s → (es : List Step) → Walked c [] es → Walked c (missed s ∷ []) (tells (Look 0) (fail s) ∷ es) × Begun (covered_calls version) c (tells (Look 0) (fail s) ∷ es)
follows_lost version c s f es w = let a = walked_tells c [] (Look 0) (fail s) es tt w in (a, walked_begun version c (missed s ∷ []) (tells (Look 0) (fail s) ∷ es) [] (failed c NoEntry) a f.missing)

pub follows_quit : (version : Version) (c : Call) (s : Action) → Follows c s → (es : List Step) → Walked c [] es → Walked c (missed s ∷ []) (tells (GiveUpWalk s) (fail s) ∷ es) × Begun (covered_calls version) c (tells (GiveUpWalk s) (fail s) ∷ es)
follows_quit version c s f es w = let a = walked_tells c [] (GiveUpWalk s) (fail s) es tt w in (a, walked_begun version c (missed s ∷ []) (tells (GiveUpWalk s) (fail s) ∷ es) [] (failed c NoEntry) a f.missing)

pub follows_begin : (version : Version) (c : Call) (s : Action) → Follows c s → Walked c [] (looks (Begin s 0) ∷ []) × Begun (covered_calls version) c (looks (Begin s 0) ∷ [])
follows_begin version c s f = let a = walked_begin c [] s [] f.first (λ xs r p. p) in (a, walked_begun version c [] (looks (Begin s 0) ∷ []) (tells (Look 0) (fail s) ∷ []) (failed c NoEntry) a (tt, f.missing))

-- What a hart has.

-- all that is left at its end, but for its transaction
pub record MayRest (O : Own) (base : ℕ → ℕ) : Type 0 where
  pub hold : O.row.hold ≡ None
  pub hand : O.desk.hand ≡ None
  pub lent : O.desk.lent ≡ nothing
  pub opening : O.desk.opening ≡ None
  pub left : O.desk.left ≡ None
  pub counts : (i : ℕ) → base i ≡ one_if (O.desk.directory == i)

pub may_stay : (O O0 : Own) (base : ℕ → ℕ) → Stays O O0 → MayRest O0 base → MayRest O base
may_stay O O0 base s m = record {
  hold = ap (λ (r : Row). r.hold) s.row ∙ m.hold;
  hand = s.hand ∙ m.hand;
  lent = s.lent ∙ m.lent;
  opening = s.opening ∙ m.opening;
  left = s.left ∙ m.left;
  counts = λ i. m.counts i ∙ (λ z. one_if (sym s.directory z == i));
}

rests_through : (O P : Own) (base : ℕ → ℕ) → Through O P base → MayRest O base → Rests P
rests_through O P base t m = record {
  inodes = t.inodes;
  refs = λ i. t.refs i ∙ m.counts i ∙ (λ z. one_if ((sym t.desk z).directory == i));
  walk = t.walk;
  pending = t.pending;
  hold = ap (λ (r : Row). r.hold) t.row ∙ m.hold;
  hand = ap (λ (d : Desk). d.hand) t.desk ∙ m.hand;
  joined = ap (λ (d : Desk). d.joined) t.desk;
  lent = ap (λ (d : Desk). d.lent) t.desk ∙ m.lent;
  opening = ap (λ (d : Desk). d.opening) t.desk ∙ m.opening;
  left = ap (λ (d : Desk). d.left) t.desk ∙ m.left;
  noted = ap (λ (d : Desk). d.noted) t.desk;
}

-- The call leaves its transaction, frees what is listed, and replies: it found no room, or its sequence is written.
pub s-ends : (version : Version) (h : ℕ) (c : Call) (r : Reply) (base : ℕ → ℕ) (ns : List ℕ) (n : ℕ) (es : List Step) (w : World) (O : Own) → own_of h w ≡ O → O.desk.lender ≡ None → h < hart_count → 971 * length ns + 63 < n → O.desk.joined ≡ true
    → Listed O base ns → ((i : ℕ) → O.mine.refs i ≡ base i + times i ns) → O.mine.walk ≡ None → O.mine.pending ≡ None → MayRest O base → ((O.desk.full ≡ true) ⊎ IsWholeCall c (oldest_first es) r)
    → Safe (machine version) h (Begun (covered_calls version) c) (Ends (covered_calls version) h c) (tail ns r) n es w
s-ends version h c r base ns n es w O owns free lt few joined listed refs walk pending may told =
    s-tail version h (Begun (covered_calls version) c) (Ends (covered_calls version) h c) r lt base ns n es w O owns free few joined (ap (λ (o : Option Hold). holds_raised true o) may.hold) listed refs walk pending (λ R u t full own. (
      (λ clean. elim told [ inl f ↦ absurd (let a = full (ap (λ (d : Desk). d.full) t.desk ∙ f) in cc (a, clean)) | inr y ↦ y ]),
      subst (λ (o : Own). Rests o) (sym own) (rests_through O R base t may),
    ))

-- Its walk was lost.
pub s-lost : (version : Version) (h : ℕ) (c : Call) (s : Action) (K : ℕ) (base : ℕ → ℕ) (O0 : Own) → h < hart_count → Ready base O0 → MayRest O0 base → Follows c s → 64 ≤ K → (why : WalkStop) (ms : List ℕ) (l : ℕ) (es : List Step) (u : World) (R : Own) → 971 * length ms + K ≤ l → Gone h base ms O0 R u
    → Lost (λ xs. Walked c (missed s ∷ []) xs) why es R → Safe (machine version) h (Begun (covered_calls version) c) (Ends (covered_calls version) h c) (tail ms (stopped c why)) l es u
s-lost version h c s K base O0 lt ready may f enough why ms l es u R few g told =
    s-ends version h c (stopped c why) base ms l es u R g.owns (g.stays.lender ∙ ready.free) lt (omega (arith, few, enough)) (g.stays.joined ∙ ready.joined) g.listed g.refs g.walk g.pending (may_stay R O0 base g.stays may) (by why told)
  where
    by : (why : WalkStop) → Lost (λ xs. Walked c (missed s ∷ []) xs) why es R → (R.desk.full ≡ true) ⊎ IsWholeCall c (oldest_first es) (stopped c why)
    by NotThere t = inr (t [] (failed c NoEntry) f.missing)
    by NoMemory t = inl t

-- What is left once j, to which the hart referred, is given up.
pub record Dropped (base : ℕ → ℕ) (ns : List ℕ) (O R : Own) : Type 0 where
  pub row : R.row ≡ O.row
  pub ninodes : R.ninodes ≡ O.ninodes
  pub desk : R.desk ≡ O.desk
  pub walk : R.mine.walk ≡ None
  pub pending : R.mine.pending ≡ None
  pub refs : (i : ℕ) → R.mine.refs i ≡ base i + times i ns
  pub listed : Listed R base ns

pub back_at : {A : Type 0} (f : ℕ → Option A) (j : ℕ) (x : Option A) → f j ≡ None → (i : ℕ) → put (put f j x) j None i ≡ f i
back_at {A} f j x out i = elim (same_or i j) [
  | inl q ↦ ap (put (put f j x) j None) q ∙ put_same (put f j x) j None ∙ sym out ∙ ap f (sym q)
  | inr ne ↦ put_other (put f j x) j None i ne ∙ put_other f j x i ne
]

-- Its lock is given up, and the reference dropped. O: what the hart has without the lock.
pub s-give-up : (version : Version) {A : Type 0} {h : ℕ} (j : ℕ) (c : Option Node) (base : ℕ → ℕ) (ns : List ℕ) {k : P A} {B : List Step → Type 0} {Q : A → List Step → World → Type 0} {n : ℕ} {es : List Step} {w : World} {O : Own}
    → own_of h w ≡ record O { inodes = put O.inodes j (Some (locked_held c)) } → O.desk.lender ≡ None → h < hart_count → 904 < n → O.desk.joined ≡ true → Listed O base ns → O.inodes j ≡ None → ((i : ℕ) → O.mine.refs i ≡ base i + times i ns + one_if (j == i)) → O.mine.walk ≡ None → O.mine.pending ≡ None
    → (own_names O.row O.desk j ≡ true → 0 < base j)
    → ((l : ℕ) (R : Own) (u : World) → n ≤ l + 905 → own_of h u ≡ R → Dropped base ns O R → Safe (machine version) h B Q k l es u)
    → Safe (machine version) h B Q (give_up j k) n es w
s-give-up version {A} {h} j c base ns {k} {B} {Q} {n} {es} {w} {O} owns free lt few joined listed out refs walk pending spare rest =
    s-give version owns free lt (omega (arith, few)) (put_same O.inodes j (Some (locked_held c))) refl refl refl pending (λ l1 u1 q1 own1.
    s-drop version j own1 free lt (omega (arith, q1, few)) joined (put_same (put O.inodes j (Some (locked_held c))) j None) (let r = refs j in let o = one_at j in omega (arith, r, o)) pending walk may (λ l2 u2 q2 own2.
    rest l2 _ u2 (omega (arith, q1, q2)) own2 (record {
      row = refl;
      ninodes = refl;
      desk = refl;
      walk = walk;
      pending = pending;
      refs = λ i. fewer i;
      listed = listed_among O (record O { inodes = put (put O.inodes j (Some (locked_held c))) j None; mine = record { refs = put O.mine.refs j (O.mine.refs j - 1); walk = O.mine.walk; pending = O.mine.pending } }) base ns listed (λ i. back_at O.inodes j (Some (locked_held c)) out i) (λ i t. put_other O.mine.refs j (O.mine.refs j - 1) i (not_j i t)) (λ i t q. q);
    })))
  where
    may : (1 < O.mine.refs j) ⊎ (own_names O.row O.desk j ≡ false)
    may = elim (either (own_names O.row O.desk j)) [
      | inl y ↦ inl (let s = spare y in let r = refs j in let o = one_at j in omega (arith, s, r, o))
      | inr y ↦ inr y
    ]

    not_j : (i : ℕ) → 0 < times i ns → i ≢ j
    not_j i t q = absurd (let a = (listed.all i t).is in let b : O.inodes i ≡ None = ap O.inodes q ∙ out in cc (a, b))

    fewer : (i : ℕ) → put O.mine.refs j (O.mine.refs j - 1) i ≡ base i + times i ns
    fewer i = let r = refs i in elim (same_or i j) [
      | inl q ↦ (let a : put O.mine.refs j (O.mine.refs j - 1) i ≡ O.mine.refs j - 1 = ap (put O.mine.refs j (O.mine.refs j - 1)) q ∙ put_same O.mine.refs j (O.mine.refs j - 1) in let g : O.mine.refs j ≡ O.mine.refs i = ap O.mine.refs (sym q) in let o : one_if (j == i) ≡ 1 = ap (λ (z : ℕ). one_if (j == z)) q ∙ one_at j in omega (arith, r, a, g, o))
      | inr ne ↦ (let a = put_other O.mine.refs j (O.mine.refs j - 1) i ne in let o = one_else j i ne in omega (arith, r, a, o))
    ]

-- It is given up, and the call ends: it found no room, or was refused.
pub s-refuse : (version : Version) (h : ℕ) (c : Call) (r : Reply) (j : ℕ) (x : Option Node) (base : ℕ → ℕ) (ns : List ℕ) (n : ℕ) (es : List Step) (w : World) (O : Own) → own_of h w ≡ record O { inodes = put O.inodes j (Some (locked_held x)) } → O.desk.lender ≡ None → h < hart_count → 971 * length ns + 970 ≤ n → O.desk.joined ≡ true
    → Listed O base ns → O.inodes j ≡ None → ((i : ℕ) → O.mine.refs i ≡ base i + times i ns + one_if (j == i)) → O.mine.walk ≡ None → O.mine.pending ≡ None → (own_names O.row O.desk j ≡ true → 0 < base j) → MayRest O base → ((O.desk.full ≡ true) ⊎ IsWholeCall c (oldest_first es) r)
    → Safe (machine version) h (Begun (covered_calls version) c) (Ends (covered_calls version) h c) (give_up j (tail ns r)) n es w
s-refuse version h c r j x base ns n es w O own free lt few joined listed out refs walk pending spare may told =
    s-give-up version j x base ns own free lt (omega (arith, few)) joined listed out refs walk pending spare (λ l M u q own2 g.
    s-ends version h c r base ns l es u M own2 (ap (λ (z : Desk). z.lender) g.desk ∙ free) lt (omega (arith, q, few)) (ap (λ (z : Desk). z.joined) g.desk ∙ joined) g.listed g.refs g.walk g.pending (record {
      hold = ap (λ (z : Row). z.hold) g.row ∙ may.hold;
      hand = ap (λ (z : Desk). z.hand) g.desk ∙ may.hand;
      lent = ap (λ (z : Desk). z.lent) g.desk ∙ may.lent;
      opening = ap (λ (z : Desk). z.opening) g.desk ∙ may.opening;
      left = ap (λ (z : Desk). z.left) g.desk ∙ may.left;
      counts = λ i. may.counts i ∙ (λ z. one_if ((sym g.desk z).directory == i));
    }) (elim told [ inl f ↦ inl (ap (λ (z : Desk). z.full) g.desk ∙ f) | inr y ↦ inr y ]))

-- a face tells the type
pub face_type : (version : Version) (v : Option Node) (s : InodeType) → type_of v ≡ Some s → is_directory_face (face_of version v) ≡ is_directory_type s
face_type version None s e = absurd cc
face_type version (Some v) s e = ap (λ (z : InodeType). is_directory_type z) (some_is e)
  where
    some_is : {a b : InodeType} → ◌≡◌ {A = Option InodeType} (Some a) (Some b) → a ≡ b
    some_is q = cc

-- What a call on a path has once it has joined.

abbrev pub joined_own : Own → Own
joined_own O = record O { desk = record (O.desk) { joined = true } }

abbrev pub home : Own → ℕ → ℕ
home O i = one_if (O.desk.directory == i)

-- what a hart names without a hold, if it opens nothing
pub names_plain : (r : Row) (d : Desk) (i : ℕ) → r.hold ≡ None → d.opening ≡ None → own_names r d i ≡ ((r.cwd == i) || is_at d.left i)
names_plain r d i hold opening = λ z. (r.cwd == i) || (hold_names (hold z) i || (key_names (key_in r.keys (opening z)) i || is_at d.left i))

pub home_is : (h : ℕ) (w : World) → (w.desks h).lender ≡ None → h < hart_count → Inv w → Idle h w → (own_of h w).desk.directory ≡ (own_of h w).row.cwd
home_is h w free lt inv idle = (inv.directory h lt).at free ∙ (λ z. left_or (idle.left z) (w.all.cwd h))

pub ready_at : (h : ℕ) (w : World) → (w.desks h).lender ≡ None → h < hart_count → Inv w → Idle h w → Ready (home (own_of h w)) (joined_own (own_of h w))
ready_at h w free lt inv idle = record {
  free = free;
  joined = refl;
  opening = idle.opening;
  left = idle.left;
  hold = subst KeepsHold (sym idle.hold) tt;
  few = λ i. let o = one_most ((w.desks h).directory == i) in omega (arith, o);
  spare = λ i q. spare i (sym (names_plain (own_of h w).row (w.desks h) i idle.hold idle.opening) ∙ q);
}
  where
    spare : (i : ℕ) → ((w.all.cwd h == i) || is_at (w.desks h).left i) ≡ true → 0 < one_if ((w.desks h).directory == i)
    spare i q =
        let e : (w.all.cwd h == i) ≡ true = or_false (w.all.cwd h == i) (is_at (w.desks h).left i) (ap (λ (z : Option ℕ). is_at z i) idle.left) q in
        let o : one_if ((w.desks h).directory == i) ≡ 1 = one_yes ((w.desks h).directory == i) ((λ z. home_is h w free lt inv idle z == i) ∙ e) in
        omega (arith, o)
      where
        or_false : (a b : Bool) → b ≡ false → (a || b) ≡ true → a ≡ true
        or_false true b e p = refl
        or_false false b e p = absurd (cc (e, p))

pub may_rest : (h : ℕ) (w : World) → Idle h w → MayRest (joined_own (own_of h w)) (home (own_of h w))
may_rest h w idle = record { hold = idle.hold; hand = idle.hand; lent = idle.lent; opening = idle.opening; left = idle.left; counts = λ i. refl }

pub times_none : (i : ℕ) → times i [] ≡ 0
unfolding times
times_none i = refl

pub gone_at : (h : ℕ) (w u : World) → Idle h w → own_of h u ≡ joined_own (own_of h w) → Gone h (home (own_of h w)) [] (joined_own (own_of h w)) (joined_own (own_of h w)) u
gone_at h w u idle own = record {
  owns = own;
  stays = record { row = refl; ninodes = refl; fds = refl; hand = refl; joined = refl; directory = refl; lent = refl; lender = refl; opening = refl; left = refl };
  walk = idle.walk;
  pending = idle.pending;
  refs = λ i. let r = idle.refs i in let t = times_none i in omega (arith, r, t);
  listed = record { all = λ i t. absurd (let z = times_none i in omega (arith, z, t)); only = λ i x is. absurd (let a = ap (λ (f : ℕ → Option Held). f i) idle.inodes in cc (a, is)); once = λ i. let z = times_none i in omega (arith, z) };
}
