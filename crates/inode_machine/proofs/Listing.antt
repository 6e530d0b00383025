-- The inodes that a call has still to free: its list, and the end of the call, which frees them.
use Rattle.image_versions.specs.declared.version.Version.{Version}
use Rattle.inode_machine.proofs.Vocabulary.{◌≡◌, ◌≢◌, ◌⊎◌, inl, inr, ℕ, ◌+◌, ◌-◌, ◌*◌, ◌<◌, ◌≤◌, true, false, ◌==◌, List, [], ◌∷◌, ◌++◌, length, Option, Some, None, refl, sym, ◌∙◌, ap, subst, arith, Do, Ret, unmarked, Safe, Reply, Node, hart_count, put, is_live, holds_raised, Row, one_if, eq_self, eq_not, same_or, put_same, put_other, one_no, one_yes, Step, Desk, World, Say, Own, Held, own_names, own_of, nothing, machine, ThisP as P, free_listed, free_all, tail}
use Rattle.inode_machine.proofs.Rules.{UnlocksAll}
use Rattle.inode_machine.proofs.Freeing.{s-take-kept, s-free-all}
use Rattle.inode_machine.proofs.Dups.{s-join, s-leave, s-say}

-- how often a number is in the list
unfoldable pub times : ℕ → List ℕ → ℕ
times i [] = 0
times i (n ∷ ns) = one_if (n == i) + times i ns

pub times_last : (i d : ℕ) (ns : List ℕ) → times i (ns ++ d ∷ []) ≡ times i ns + one_if (d == i)
unfolding times
times_last i d [] = omega arith
times_last i d (n ∷ ns) = let r = times_last i d ns in omega (arith, r)

pub length_last : (d : ℕ) (ns : List ℕ) → length (ns ++ d ∷ []) ≡ length ns + 1
length_last d [] = refl
length_last d (n ∷ ns) = let r = length_last d ns in omega (arith, r)

pub one_at : (d : ℕ) → one_if (d == d) ≡ 1
one_at d = one_yes (d == d) (eq_self d)

pub one_else : (d i : ℕ) → i ≢ d → one_if (d == i) ≡ 0
one_else d i ne = one_no (d == i) (eq_not d i (λ q. ne (sym q)))

abbrev pub listed_held : Option Node → Held
listed_held v = record { disk = v; node = v; alone = true; locked = false }

-- dead, kept alone, with one reference, and named by nothing
pub record IsListed (O : Own) (i : ℕ) : Type 0 where
  pub node : Option Node
  pub there : node ≢ None
  pub is : O.inodes i ≡ Some (listed_held node)
  pub dead : is_live node ≡ false
  pub one : O.mine.refs i ≡ 1
  pub unnamed : own_names O.row O.desk i ≡ false

-- what the hart keeps is just the list, and its references are these, and those of the list
pub record Listed (O : Own) (base : ℕ → ℕ) (ns : List ℕ) : Type 0 where
  pub all : (i : ℕ) → 0 < times i ns → IsListed O i
  pub only : (i : ℕ) (x : Held) → O.inodes i ≡ Some x → 0 < times i ns
  pub once : (i : ℕ) → times i ns ≤ 1

pub listed_whole : (O : Own) (base : ℕ → ℕ) (ns : List ℕ) → Listed O base ns → (i : ℕ) (x : Held) → O.inodes i ≡ Some x → x.disk ≡ x.node
listed_whole O base ns l i x is = let a = l.all i (l.only i x is) in let q : Some (listed_held a.node) ≡ Some x = sym a.is ∙ is in let e : listed_held a.node ≡ x = cc in subst (λ (z : Held). z.disk ≡ z.node) e refl

pub listed_free : (O : Own) (base : ℕ → ℕ) (ns : List ℕ) → Listed O base ns → UnlocksAll O
listed_free O base ns l i x is = let a = l.all i (l.only i x is) in let q : Some (listed_held a.node) ≡ Some x = sym a.is ∙ is in let e : listed_held a.node ≡ x = cc in ap (λ (z : Held). z.locked) (sym e)

-- the same, if the rest changed
pub listed_among : (O P : Own) (base : ℕ → ℕ) (ns : List ℕ) → Listed O base ns → ((i : ℕ) → P.inodes i ≡ O.inodes i) → ((i : ℕ) → 0 < times i ns → P.mine.refs i ≡ O.mine.refs i) → ((i : ℕ) → 0 < times i ns → own_names O.row O.desk i ≡ false → own_names P.row P.desk i ≡ false) → Listed P base ns
listed_among O P base ns l inodes refs names = record {
  all = λ i t. let a = l.all i t in record { node = a.node; there = a.there; is = inodes i ∙ a.is; dead = a.dead; one = refs i t ∙ a.one; unnamed = names i t a.unnamed };
  only = λ i x is. l.only i x (sym (inodes i) ∙ is);
  once = l.once;
}

pub listed_on : (O P : Own) (base : ℕ → ℕ) (ns : List ℕ) → Listed O base ns → ((i : ℕ) → P.inodes i ≡ O.inodes i) → ((i : ℕ) → 0 < times i ns → P.mine.refs i ≡ O.mine.refs i) → ((i : ℕ) → own_names O.row O.desk i ≡ false → own_names P.row P.desk i ≡ false) → Listed P base ns
listed_on O P base ns l inodes refs names = listed_among O P base ns l inodes refs (λ i t q. names i q)

-- the same, beside other references
pub listed_beside : (O : Own) (base base2 : ℕ → ℕ) (ns : List ℕ) → Listed O base ns → Listed O base2 ns
listed_beside O base base2 ns l = record { all = l.all; only = l.only; once = l.once }

-- one more at its end
pub listed_more : (O P : Own) (base : ℕ → ℕ) (ns : List ℕ) (d : ℕ) → Listed O base ns → O.inodes d ≡ None → IsListed P d → ((i : ℕ) → i ≢ d → P.inodes i ≡ O.inodes i) → ((i : ℕ) → 0 < times i ns → P.mine.refs i ≡ O.mine.refs i) → ((i : ℕ) → own_names O.row O.desk i ≡ false → own_names P.row P.desk i ≡ false)
    → Listed P base (ns ++ d ∷ [])
listed_more O P base ns d l out new inodes refs names = record {
  all = λ i t. elim (same_or i d) [
    | inl q ↦ subst (IsListed P) (sym q) new
    | inr ne ↦ (let a = l.all i (let x = times_last i d ns in let y = one_else d i ne in omega (arith, x, y, t)) in record { node = a.node; there = a.there; is = inodes i ne ∙ a.is; dead = a.dead; one = refs i (let x = times_last i d ns in let y = one_else d i ne in omega (arith, x, y, t)) ∙ a.one; unnamed = names i a.unnamed })
  ];
  only = λ i x is. let y = times_last i d ns in elim (same_or i d) [
    | inl q ↦ (let z : one_if (d == i) ≡ 1 = ap (λ (k : ℕ). one_if (d == k)) q ∙ one_at d in omega (arith, y, z))
    | inr ne ↦ (let t = l.only i x (sym (inodes i ne) ∙ is) in omega (arith, y, t))
  ];
  once = λ i. let y = times_last i d ns in let o = l.once i in elim (same_or i d) [
    | inl q ↦ (let z : one_if (d == i) ≡ 1 = ap (λ (k : ℕ). one_if (d == k)) q ∙ one_at d in let t : times i ns ≡ 0 = none i q in omega (arith, y, z, t))
    | inr ne ↦ (let z = one_else d i ne in omega (arith, y, z, o))
  ];
}
  where
    none : (i : ℕ) → i ≡ d → times i ns ≡ 0
    none i q = elim (zero_or (times i ns)) [ inl z ↦ z | inr p ↦ absurd (let a = (l.all i p).is in let b : O.inodes i ≡ None = ap O.inodes q ∙ out in cc (a, b)) ]
      where
        zero_or : (n : ℕ) → (n ≡ 0) ⊎ (0 < n)
        zero_or n = elim (same_or n 0) [ inl e ↦ inl e | inr ne ↦ inr (omega (arith, ne)) ]

-- What is left once inode n of the list is freed.
pub record FreedOne (O P : Own) (n : ℕ) : Type 0 where
  pub gone : P.inodes n ≡ None
  pub inodes : (i : ℕ) → i ≢ n → P.inodes i ≡ O.inodes i
  pub refs_n : P.mine.refs n ≡ O.mine.refs n - 1
  pub refs : (i : ℕ) → i ≢ n → P.mine.refs i ≡ O.mine.refs i
  pub walk : P.mine.walk ≡ O.mine.walk
  pub pending : P.mine.pending ≡ O.mine.pending
  pub row : P.row ≡ O.row
  pub ninodes : P.ninodes ≡ O.ninodes
  pub desk : P.desk ≡ record (O.desk) { joined = false; noted = None }

other_four : {A : Type 0} (f : ℕ → A) (n i : ℕ) (a b c y : A) → i ≢ n → put (put (put (put f n a) n b) n c) n y i ≡ f i
other_four f n i a b c y ne = put_other (put (put (put f n a) n b) n c) n y i ne ∙ put_other (put (put f n a) n b) n c i ne ∙ put_other (put f n a) n b i ne ∙ put_other f n a i ne

-- An inode of the list is freed in a transaction of its own.
pub s-free-listed : (version : Version) {A : Type 0} {h : ℕ} (n : ℕ) {k : P A} {B : List Step → Type 0} {Q : A → List Step → World → Type 0} {c : ℕ} {es : List Step} {w : World} {O : Own} (v : Option Node)
    → own_of h w ≡ O → O.desk.lender ≡ None → h < hart_count → 971 < c → UnlocksAll O → ((i : ℕ) (x : Held) → O.inodes i ≡ Some x → x.disk ≡ x.node) → O.desk.joined ≡ false → O.inodes n ≡ Some (listed_held v) → v ≢ None → is_live v ≡ false → O.mine.refs n ≡ 1 → own_names O.row O.desk n ≡ false → O.mine.walk ≡ None → O.mine.pending ≡ None → holds_raised true O.row.hold ≡ false
    → ((l : ℕ) (P : Own) (u : World) → l + 971 ≡ c → FreedOne O P n → own_of h u ≡ P → Safe (machine version) h B Q k l es u)
    → Safe (machine version) h B Q (free_listed n k) c es w
s-free-listed version {h = h} n {O = O} v owns free lt few locks whole out is there dead one unnamed walk pending low rest =
    s-join version owns free lt (omega arith) locks out (λ l1 u1 q1 own1.
    s-take-kept version own1 free lt (omega (arith, q1, few)) is refl there tt (omega (arith, one)) (λ l2 u2 q2 own2.
    s-free-all version v own2 free lt (omega (arith, q1, q2, few)) refl (put_same O.inodes n (Some (record { disk = v; node = v; alone = true; locked = true }))) there dead one pending unnamed walk (λ l3 u3 q3 own3.
    s-leave version own3 free lt (omega (arith, q1, q2, q3, few)) left_free refl low left_whole (λ l4 u4 q4 own4.
    rest l4 _ u4 (omega (arith, q1, q2, q3, q4))
    (record {
      gone = put_same _ n None;
      inodes = λ i ne. other_four O.inodes n i (Some (record { disk = v; node = v; alone = true; locked = true })) (Some (record { disk = None; node = None; alone = true; locked = true })) (Some (record { disk = None; node = None; alone = true; locked = false })) None ne;
      refs_n = put_same O.mine.refs n (O.mine.refs n - 1);
      refs = λ i ne. put_other O.mine.refs n (O.mine.refs n - 1) i ne;
      walk = refl;
      pending = refl;
      row = refl;
      ninodes = refl;
      desk = refl;
    }) own4))))
  where
    I : ℕ → Option Held
    I = put (put (put (put O.inodes n (Some (record { disk = v; node = v; alone = true; locked = true }))) n (Some (record { disk = None; node = None; alone = true; locked = true }))) n (Some (record { disk = None; node = None; alone = true; locked = false }))) n None

    was : (i : ℕ) (x : Held) → I i ≡ Some x → O.inodes i ≡ Some x
    was i x q = elim (same_or i n) [
      | inl e ↦ absurd (let a : I i ≡ None = ap I e ∙ put_same _ n None in cc (a, q))
      | inr ne ↦ sym (other_four O.inodes n i (Some (record { disk = v; node = v; alone = true; locked = true })) (Some (record { disk = None; node = None; alone = true; locked = true })) (Some (record { disk = None; node = None; alone = true; locked = false })) None ne) ∙ q
    ]

    left_free : (i : ℕ) (x : Held) → I i ≡ Some x → x.locked ≡ false
    left_free i x q = locks i x (was i x q)

    left_whole : (i : ℕ) (x : Held) → I i ≡ Some x → x.disk ≡ x.node
    left_whole i x q = whole i x (was i x q)

-- What a hart has once its call is through: nothing kept, and its references as at its beginning.
pub record Through (O P : Own) (base : ℕ → ℕ) : Type 0 where
  pub inodes : P.inodes ≡ nothing
  pub refs : (i : ℕ) → P.mine.refs i ≡ base i
  pub walk : P.mine.walk ≡ None
  pub pending : P.mine.pending ≡ None
  pub row : P.row ≡ O.row
  pub desk : P.desk ≡ record (O.desk) { joined = false; noted = None }

module _ (version : Version) (h : ℕ) (B : List Step → Type 0) (Q : Reply → List Step → World → Type 0) (r : Reply) (lt : h < hart_count) where
  frees : (base : ℕ → ℕ) (es : List Step) (O0 : Own) → holds_raised true O0.row.hold ≡ false → ((P : Own) (u : World) → Through O0 P base → (P.desk.full ≡ true → u.clean ≡ false) → own_of h u ≡ P → Q r es u)
      → (ns : List ℕ) (n : ℕ) (w : World) (O : Own) → own_of h w ≡ O → O.desk.lender ≡ None → O.row ≡ O0.row → O.desk ≡ record (O0.desk) { joined = false; noted = None } → 971 * length ns < n → Listed O base ns → ((i : ℕ) → O.mine.refs i ≡ base i + times i ns) → O.mine.walk ≡ None → O.mine.pending ≡ None
      → Safe (machine version) h B Q (free_all ns (Do Say unmarked (λ _. Ret r))) n es w
  unfolding times
  frees base es O0 low ends [] n w O owns free row desk few l refs walk pending =
      s-say version owns free lt (omega (arith, few)) (listed_free O base [] l) (ap (λ (d : Desk). d.joined) desk) (λ l1 u1 q1 spoilt own1. record {
        wp = ends O u1 (record {
          inodes = λ z i. none i z;
          refs = λ i. let e = refs i in omega (arith, e);
          walk = walk;
          pending = pending;
          row = row;
          desk = desk;
        }) spoilt own1;
      })
    where
      none : (i : ℕ) → O.inodes i ≡ None
      none i = go (O.inodes i) refl
        where
          go : (o : Option Held) → O.inodes i ≡ o → o ≡ None
          go None q = refl
          go (Some x) q = absurd (let t = l.only i x q in omega (arith, t))
  frees base es O0 low ends (m ∷ ns) n w O owns free row desk few l refs walk pending =
      s-free-listed version m here.node owns free lt (omega (arith, few)) (listed_free O base (m ∷ ns) l) (listed_whole O base (m ∷ ns) l) (ap (λ (d : Desk). d.joined) desk) here.is here.there here.dead here.one here.unnamed walk pending (ap (λ (r : Row). holds_raised true r.hold) row ∙ low) (λ l1 P u1 q1 f own1.
      again l1 P u1 q1 f own1 (frees base es O0 low ends ns l1 u1 P own1))
    where
      once_m : times m ns ≡ 0
      once_m = let o = l.once m in let a = one_at m in omega (arith, o, a)

      here : IsListed O m
      here = l.all m (let a = one_at m in omega (arith, a))

      again : (l1 : ℕ) (P : Own) (u1 : World) → l1 + 971 ≡ n → FreedOne O P m → own_of h u1 ≡ P
          → (P.desk.lender ≡ None → P.row ≡ O0.row → P.desk ≡ record (O0.desk) { joined = false; noted = None } → 971 * length ns < l1 → Listed P base ns → ((i : ℕ) → P.mine.refs i ≡ base i + times i ns) → P.mine.walk ≡ None → P.mine.pending ≡ None → Safe (machine version) h B Q (free_all ns (Do Say unmarked (λ _. Ret r))) l1 es u1)
          → Safe (machine version) h B Q (free_all ns (Do Say unmarked (λ _. Ret r))) l1 es u1
      again l1 P u1 q1 f own1 next = next (ap (λ (d : Desk). d.lender) f.desk ∙ free) (f.row ∙ row) (f.desk ∙ (λ z. record (desk z) { joined = false; noted = None })) (omega (arith, few, q1)) (record {
        all = λ i t. let ne : i ≢ m = (λ q. let e : times i ns ≡ 0 = ap (λ (k : ℕ). times k ns) q ∙ once_m in omega (arith, e, t)) in let a = l.all i (omega (arith, t)) in
            record { node = a.node; there = a.there; is = f.inodes i ne ∙ a.is; dead = a.dead; one = f.refs i ne ∙ a.one; unnamed = (λ z. own_names (f.row z) (f.desk z) i) ∙ a.unnamed };
        only = λ i x q. elim (same_or i m) [
          | inl e ↦ absurd (let g : P.inodes i ≡ None = ap P.inodes e ∙ f.gone in cc (g, q))
          | inr ne ↦ (let t = l.only i x (sym (f.inodes i ne) ∙ q) in let z = one_else m i ne in omega (arith, t, z))
        ];
        once = λ i. let o = l.once i in omega (arith, o);
      }) (λ i. elim (same_or i m) [
        | inl e ↦ (let a : P.mine.refs i ≡ P.mine.refs m = ap P.mine.refs e in let b = f.refs_n in let c = refs m in let o = one_at m in let t : times i ns ≡ 0 = ap (λ (k : ℕ). times k ns) e ∙ once_m in let g : base i ≡ base m = ap base e in let x = once_m in let y = here.one in omega (arith, a, b, c, o, t, g, x, y))
        | inr ne ↦ (let a = f.refs i ne in let c = refs i in let z = one_else m i ne in omega (arith, a, c, z))
      ]) (f.walk ∙ walk) (f.pending ∙ pending)

  -- The call's end: it leaves its transaction, frees what is listed, and replies.
  pub s-tail : (base : ℕ → ℕ) (ns : List ℕ) (n : ℕ) (es : List Step) (w : World) (O : Own) → own_of h w ≡ O → O.desk.lender ≡ None → 971 * length ns + 63 < n → O.desk.joined ≡ true → holds_raised true O.row.hold ≡ false → Listed O base ns → ((i : ℕ) → O.mine.refs i ≡ base i + times i ns) → O.mine.walk ≡ None → O.mine.pending ≡ None
      → ((P : Own) (u : World) → Through O P base → (P.desk.full ≡ true → u.clean ≡ false) → own_of h u ≡ P → Q r es u)
      → Safe (machine version) h B Q (tail ns r) n es w
  s-tail base ns n es w O owns free few joined low l refs walk pending ends =
      s-leave version owns free lt (omega (arith, few)) (listed_free O base ns l) joined low (listed_whole O base ns l) (λ l1 u1 q1 own1.
      frees base es O low ends ns l1 u1 (record O { desk = record (O.desk) { joined = false; noted = None } }) own1 free refl refl (omega (arith, few, q1))
      (listed_on O (record O { desk = record (O.desk) { joined = false; noted = None } }) base ns l (λ i. refl) (λ i t. refl) (λ i q. q)) refs walk pending)
