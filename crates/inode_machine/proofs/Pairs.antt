-- A call that works on a directory and one inode more: they change, and are given up; what is new and gets no name is freed.
use Rattle.image_versions.specs.declared.version.Version.{Version}
use Rattle.inode_machine.proofs.Vocabulary.{◌≡◌, ◌≢◌, inl, inr, ℕ, ◌+◌, ◌*◌, ◌<◌, ◌≤◌, true, false, ◌==◌, List, length, Option, Some, None, refl, sym, ◌∙◌, ap, arith, Safe, Begun, Ends, Reply, Call, Node, hart_count, put, one_if, either, same_or, put_same, put_other, Step, Desk, Note, World, with_count, Held, Own, own_names, own_of, machine, give_up, tail, unmake, covered_calls}
use Rattle.inode_machine.proofs.Basics.{locked_held, times, one_at, one_else, Stays, names_stay, stays_same, Holding, IsWhole, HasJoined, IsAnswerable, holding_same, holding_set, unlisted, unlisted_refs, s-give-end, s-give-up}
use Rattle.inode_machine.proofs.Orphans.{s-orphan}

-- The hart keeps directory d, of which it has x, and i, of which it has z, each with a reference; and its list.
pub record Pair (base : ℕ → ℕ) (ns : List ℕ) (O0 O : Own) (d i : ℕ) (x z : Held) : Type 0 where
  pub extra : ℕ → Option Held
  pub hold : Holding base ns O0 O extra (λ j. (0 + one_if (d == j)) + one_if (i == j))
  pub apart : i ≢ d
  pub at_d : extra d ≡ Some x
  pub at_i : extra i ≡ Some z
  pub others : (j : ℕ) → j ≢ d → j ≢ i → extra j ≡ None

-- another inode is kept beside the directory, with a reference more
pub pair_new : {base : ℕ → ℕ} {ns : List ℕ} {O0 O : Own} {E : ℕ → Option Held} (R : Own) (d i : ℕ) {x : Held} (z : Held) → Holding base ns O0 O E (λ j. 0 + one_if (d == j)) → E d ≡ Some x → ((j : ℕ) → j ≢ d → E j ≡ None) → O.inodes i ≡ None → R.inodes ≡ put O.inodes i (Some z) → R.mine.refs ≡ put O.mine.refs i (O.mine.refs i + 1)
    → R.row ≡ O.row → R.ninodes ≡ O.ninodes → R.desk ≡ O.desk → Pair base ns O0 R d i x z
pair_new {base} {ns} {O0} {O} {E} R d i {x} z k isd rest out inodes refs row ninodes desk = record {
  extra = put E i (Some z);
  hold = holding_set R i (Some z) (λ j. (0 + one_if (d == j)) + one_if (i == j)) k (unlisted k i out) inodes (stays_same R O O0 row ninodes desk k.stays) (λ j ne. ap (λ (f : ℕ → ℕ). f j) refs ∙ put_other O.mine.refs i (O.mine.refs i + 1) j ne) (λ j. ap (λ (f : ℕ → ℕ). f j) refs ∙ more j);
  apart = apart;
  at_d = put_other E i (Some z) d (λ q. apart (sym q)) ∙ isd;
  at_i = put_same E i (Some z);
  others = λ j nd ni. put_other E i (Some z) j ni ∙ rest j nd;
}
  where
    apart : i ≢ d
    apart q = absurd (let a = k.has d x isd in let b : O.inodes d ≡ None = ap O.inodes (sym q) ∙ out in cc (a, b))

    more : (j : ℕ) → put O.mine.refs i (O.mine.refs i + 1) j ≡ base j + times j ns + ((0 + one_if (d == j)) + one_if (i == j))
    more j = let r = k.refs j in elim (same_or j i) [
      | inl q ↦ (let a : put O.mine.refs i (O.mine.refs i + 1) j ≡ O.mine.refs i + 1 = ap (put O.mine.refs i (O.mine.refs i + 1)) q ∙ put_same O.mine.refs i (O.mine.refs i + 1) in let b : O.mine.refs j ≡ O.mine.refs i = ap O.mine.refs q in let o : one_if (i == j) ≡ 1 = ap (λ (y : ℕ). one_if (i == y)) q ∙ one_at i in omega (arith, a, b, o, r))
      | inr ne ↦ (let a = put_other O.mine.refs i (O.mine.refs i + 1) j ne in let o = one_else i j ne in omega (arith, a, o, r))
    ]

-- what the hart has of the second one changes
pub pair_set : {base : ℕ → ℕ} {ns : List ℕ} {O0 O : Own} {d i : ℕ} {x z : Held} (R : Own) (y : Held) → Pair base ns O0 O d i x z → R.inodes ≡ put O.inodes i (Some y) → R.mine.refs ≡ O.mine.refs → R.row ≡ O.row → R.ninodes ≡ O.ninodes → R.desk ≡ O.desk → Pair base ns O0 R d i x y
pair_set {base} {ns} {O0} {O} {d} {i} {x} {z} R y p inodes refs row ninodes desk = record {
  extra = put p.extra i (Some y);
  hold = holding_set R i (Some y) (λ j. (0 + one_if (d == j)) + one_if (i == j)) p.hold (unlisted_refs p.hold i (let o = one_at i in omega (arith, o))) inodes (stays_same R O O0 row ninodes desk p.hold.stays) (λ j ne. ap (λ (f : ℕ → ℕ). f j) refs) (λ j. ap (λ (f : ℕ → ℕ). f j) refs ∙ p.hold.refs j);
  apart = p.apart;
  at_d = put_other p.extra i (Some y) d (λ q. p.apart (sym q)) ∙ p.at_d;
  at_i = put_same p.extra i (Some y);
  others = λ j nd ni. put_other p.extra i (Some y) j ni ∙ p.others j nd ni;
}

-- and of the directory
pub pair_set_first : {base : ℕ → ℕ} {ns : List ℕ} {O0 O : Own} {d i : ℕ} {x z : Held} (R : Own) (y : Held) → Pair base ns O0 O d i x z → R.inodes ≡ put O.inodes d (Some y) → R.mine.refs ≡ O.mine.refs → R.row ≡ O.row → R.ninodes ≡ O.ninodes → R.desk ≡ O.desk → Pair base ns O0 R d i y z
pair_set_first {base} {ns} {O0} {O} {d} {i} {x} {z} R y p inodes refs row ninodes desk = record {
  extra = put p.extra d (Some y);
  hold = holding_set R d (Some y) (λ j. (0 + one_if (d == j)) + one_if (i == j)) p.hold (unlisted_refs p.hold d (let o = one_at d in omega (arith, o))) inodes (stays_same R O O0 row ninodes desk p.hold.stays) (λ j ne. ap (λ (f : ℕ → ℕ). f j) refs) (λ j. ap (λ (f : ℕ → ℕ). f j) refs ∙ p.hold.refs j);
  apart = p.apart;
  at_d = put_same p.extra d (Some y);
  at_i = put_other p.extra d (Some y) i p.apart ∙ p.at_i;
  others = λ j nd ni. put_other p.extra d (Some y) j nd ∙ p.others j nd ni;
}

-- neither changes
pub pair_same : {base : ℕ → ℕ} {ns : List ℕ} {O0 O : Own} {d i : ℕ} {x z : Held} (R : Own) → Pair base ns O0 O d i x z → R.inodes ≡ O.inodes → R.mine.refs ≡ O.mine.refs → Stays R O0 → Pair base ns O0 R d i x z
pair_same R p inodes refs stays = record { extra = p.extra; hold = holding_same R p.hold inodes stays refs; apart = p.apart; at_d = p.at_d; at_i = p.at_i; others = p.others }

-- Both are given up, and the call ends; the directory first, or the other one.

full_on : (c : Call) (r : Reply) (es : List Step) (O R : Own) → R.desk ≡ O.desk → IsAnswerable c r es O → IsAnswerable c r es R
full_on c r es O R desk told = elim told [ inl f ↦ inl (ap (λ (z : Desk). z.full) desk ∙ f) | inr a ↦ inr a ]

pub s-end-pair : (version : Version) (h : ℕ) (c : Call) (r : Reply) {base : ℕ → ℕ} {ns : List ℕ} {O0 : Own} {d i : ℕ} {x z : Held} (n : ℕ) (es : List Step) (w : World) (O : Own) → h < hart_count → HasJoined base O0 → own_of h w ≡ O → 971 * length ns + 1875 < n → Pair base ns O0 O d i x z → IsWhole x → IsWhole z → O.mine.walk ≡ None → O.mine.pending ≡ None → IsAnswerable c r es O
    → Safe (machine version) h (Begun (covered_calls version) c) (Ends (covered_calls version) h c) (give_up d (give_up i (tail ns r))) n es w
s-end-pair version h c r {base} {ns} {O0} {d} {i} {x} {z} n es w O lt joins owns few p whole whole2 walk none told =
    s-give-up version d {more = λ j. 0 + one_if (i == j)} owns lt joins.ready (omega (arith, few))
    (record { stays = p.hold.stays; refs = λ j. (let a = p.hold.refs j in omega (arith, a)); all = p.hold.all; once = p.hold.once; has = p.hold.has; only = p.hold.only }) walk none p.at_d whole (λ l u R q own2 desk walk2 none2 k2.
    s-give-end version h c r ns (put p.extra d None) i l es u R lt joins own2 (omega (arith, few, q)) k2 (put_other p.extra d None i p.apart ∙ p.at_i) whole2
    (λ j ni. elim (same_or j d) [ inl e ↦ ap (put p.extra d None) e ∙ put_same p.extra d None | inr nd ↦ put_other p.extra d None j nd ∙ p.others j nd ni ]) walk2 none2 (full_on c r es O R desk told))

pub s-end-pair-back : (version : Version) (h : ℕ) (c : Call) (r : Reply) {base : ℕ → ℕ} {ns : List ℕ} {O0 : Own} {d i : ℕ} {x z : Held} (n : ℕ) (es : List Step) (w : World) (O : Own) → h < hart_count → HasJoined base O0 → own_of h w ≡ O → 971 * length ns + 1875 < n → Pair base ns O0 O d i x z → IsWhole x → IsWhole z → O.mine.walk ≡ None → O.mine.pending ≡ None → IsAnswerable c r es O
    → Safe (machine version) h (Begun (covered_calls version) c) (Ends (covered_calls version) h c) (give_up i (give_up d (tail ns r))) n es w
s-end-pair-back version h c r {base} {ns} {O0} {d} {i} {x} {z} n es w O lt joins owns few p whole whole2 walk none told =
    s-give-up version i {more = λ j. 0 + one_if (d == j)} owns lt joins.ready (omega (arith, few)) p.hold walk none p.at_i whole2 (λ l u R q own2 desk walk2 none2 k2.
    s-give-end version h c r ns (put p.extra i None) d l es u R lt joins own2 (omega (arith, few, q)) k2 (put_other p.extra i None d (λ e. p.apart (sym e)) ∙ p.at_d) whole
    (λ j nd. elim (same_or j i) [ inl e ↦ ap (put p.extra i None) e ∙ put_same p.extra i None | inr ni ↦ put_other p.extra i None j ni ∙ p.others j nd ni ]) walk2 none2 (full_on c r es O R desk told))

-- A new inode that gets no name: its count is cleared, and with the last reference it is freed.
pub s-unmake : (version : Version) (h : ℕ) (c : Call) (r : Reply) {base : ℕ → ℕ} {ns : List ℕ} {O0 : Own} {d i : ℕ} {x z : Held} (y : Node) (n : ℕ) (es : List Step) (w : World) (O : Own) → h < hart_count → HasJoined base O0 → own_of h w ≡ O → 971 * length ns + 1890 < n → Pair base ns O0 O d i x z → IsWhole x → z.disk ≡ Some y → z.node ≡ None → z.alone ≡ true → z.locked ≡ true → base i ≡ 0
    → ((t : Note) → O.desk.noted ≡ Some t → t.number ≢ i) → 1 ≤ i → i < O.ninodes → O.mine.walk ≡ None → O.mine.pending ≡ None → IsAnswerable c r es O
    → Safe (machine version) h (Begun (covered_calls version) c) (Ends (covered_calls version) h c) (unmake i d ns r) n es w
s-unmake version h c r {base} {ns} {O0} {d} {i} {x} {z} y n es w O lt joins owns few p whole disk node lone has zero notes low below walk none told =
    s-orphan version y owns free lt (omega (arith, few)) joined (p.hold.has i z p.at_i) has lone disk node unnamed none notes low below (λ l u q own.
    s-end-pair-back version h c r l es u R lt joins own (omega (arith, few, q)) (pair_set R (locked_held (Some (with_count 0 y))) p refl refl refl refl refl) whole (record { locked = refl; shared = refl; same = refl }) walk none told)
  where
    R : Own
    R = record O { inodes = put O.inodes i (Some (locked_held (Some (with_count 0 y)))) }

    free : O.desk.lender ≡ None
    free = p.hold.stays.lender ∙ joins.ready.free

    joined : O.desk.joined ≡ true
    joined = p.hold.stays.joined ∙ joins.ready.joined

    unnamed : own_names O.row O.desk i ≡ false
    unnamed = elim (either (own_names O.row O.desk i)) [ inr q ↦ q | inl q ↦ absurd (let a = joins.ready.spare i (sym (names_stay O O0 p.hold.stays i) ∙ q) in omega (arith, a, zero)) ]
