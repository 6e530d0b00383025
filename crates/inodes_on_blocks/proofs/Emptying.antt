-- The blocks of an inode given back, one after the other: the hart that does so has less of the inode at each.
use Rattle.inodes_on_blocks.proofs.Vocabulary.{◌≡◌, ◌≢◌, ℕ, suc, ◌+◌, ◌*◌, ◌<◌, ◌≤◌, ◌==◌, true, false, List, [], ◌∷◌, ◌++◌, length, Some, None, inl, inr, refl, sym, ◌∙◌, ap, subst, arith, Super, holder_of, hart_count, either, eq_is, IsData, NamesOwned, bind, Machine, Laws, P, Wp, Both, joined, Stable, Wp-more, lock_holder, free_block, free_numbers, Inv, World, log_of, tables_of, disk_of, Kept, below, Labels, labelled, Keeps, in_hand, IsChanging, Avoids, Owns, KeepsRoom, GaveBlock, Gave, GaveBlocks}
use Rattle.inodes_on_blocks.proofs.Basics.{nothing_owed, kept_then, below_laws, untouched_then}
use Rattle.inode_machine.specs.World as above
use Rattle.inodes_on_blocks.proofs.PutSteps.{s-give}

-- ---- the blocks that are left

owns_then : (sizes : Super) (owner owner' : ℕ → ℕ) (n b : ℕ) (bs : List ℕ) → ((c : ℕ) → c ≢ b → IsData sizes c → owner c ≡ n → owner' c ≡ n) → Avoids b bs → Owns sizes owner n bs → Owns sizes owner' n bs
owns_then sizes owner owner' n b [] stays apart owns = tt
owns_then sizes owner owner' n b (c ∷ cs) stays apart owns = (
  λ some. let at = owns.0 some in (at.0, stays c apart.0 at.0 at.1, at.2),
  owns_then sizes owner owner' n b cs stays apart.1 owns.1,
)

-- ---- what the hart has left

pub none_yet : (h n : ℕ) (w : World) → lock_holder n (tables_of w) ≡ Some h → GaveBlocks h n w w
none_yet h n w mine = record {
  inodes = λ i ne e. record { lock = e; untouched = record { sizes = refl; inode = refl; blocks = λ b block own. (refl, own); alone = λ b block own. own } };
  lock = mine;
  no_more = λ i e. e;
  sizes = refl;
  inode = refl;
  content = λ c block own. (own, refl);
  buffers = λ k ne. refl;
  held = refl;
  taken = λ c. refl;
  begun = refl;
}

one_more_block : (h n b : ℕ) (u v w : World) → GaveBlocks h n u v → GaveBlock h n b v w → in_hand h w ≡ in_hand h v → GaveBlocks h n u w
one_more_block h n b u v w p q held = record {
  inodes = λ i ne e.
      let x = p.inodes i ne e in
      let y = q.inodes i ne x.lock in
      record { lock = y.lock; untouched = untouched_then (disk_of (log_of u)) (disk_of (log_of v)) (disk_of (log_of w)) u.owner v.owner w.owner i x.untouched y.untouched };
  lock = q.lock;
  no_more = λ i e. p.no_more i (q.no_more i e);
  sizes = q.sizes ∙ p.sizes;
  inode = q.inode ∙ p.inode;
  content = λ c block own.
      let now = q.content c (subst (λ (s : Super). IsData s c) (sym p.sizes) block) own in
      let was = p.content c block now.0 in
      (was.0, now.1 ∙ was.1);
  buffers = λ k ne. q.buffers k (λ e. ne (e ∙ ap (λ (s : Super). s.bmapstart) p.sizes)) ∙ p.buffers k ne;
  held = held ∙ p.held;
  taken = λ c. q.taken c ∙ p.taken c;
  begun = q.begun ∙ p.begun;
}

-- ---- the rule

module _ (sizes : Super) (l : Labels) (laws : Laws (labelled sizes.version l)) (keeps : Keeps l) (h : ℕ) (lt : h < hart_count) (B : List l.Step → Type 0) where
  abbrev W : Type 0
  W = Both World above.World

  abbrev M : Machine
  M = joined (labelled sizes.version l) (below sizes)

  module _ {A : Type 0} (Q : A → List l.Step → W → Type 0) (G : List l.Step → above.World → Type 0) (stable : Stable (labelled sizes.version l) (below sizes) laws (below_laws sizes l keeps) h B G)
      (n : ℕ) (changing : (fs : List l.Step) (g : above.World) → G fs g → Inv g → IsChanging h n g) (Knows : ℕ → World → Type 0) (room : (more : ℕ) → KeepsRoom h sizes.bmapstart (Knows (suc more)) (Knows more)) (fewer : (more : ℕ) (v : World) → Knows (suc more) v → Knows more v) (start : W) where
    -- Between two of them: these blocks of the inode are left, then those.
    pub record Left (rest : List ℕ) (fs : List l.Step) (w : W) : Type 0 where
      pub stage : G fs w.seen
      pub since : GaveBlocks h n start.real w.real
      pub kept : Kept h start.seen w.seen
      pub few : in_hand h w.real ≤ 1
      pub free : holder_of sizes.bmapstart (log_of w.real).seats ≢ Some h
      pub at : (log_of w.real).sizes ≡ sizes
      pub owns : Owns sizes w.real.owner n rest
      pub named : NamesOwned (disk_of (log_of w.real)) w.real.owner n rest
      pub knows : Knows (length rest) w.real

    abbrev cost : List ℕ → ℕ → ℕ
    cost bs j = 3 * length bs + j

    -- The blocks with these numbers are given back, those of `rest` stay.
    pub s-numbers : (bs rest : List ℕ) (k : P M A) (j : ℕ) (es : List l.Step) (w : W) → Left (bs ++ rest) es w → ((x : W) (gs : List l.Step) → Left rest gs x → Wp M h B Q k j gs x)
        → Wp M h B Q (free_numbers sizes.bmapstart bs k) (cost bs j) es w
    s-numbers [] rest k j es w left then_ = Wp-more M h k B Q j (cost [] j) es w (omega arith) (then_ w es left)
    s-numbers (b ∷ bs) rest k j es w left then_ = elim (either (b == 0)) [
      | inl zero ↦
          subst (λ (p : P M A). Wp M h B Q p (cost (b ∷ bs) j) es w) (sym (is_zero zero))
          (Wp-more M h (free_numbers sizes.bmapstart bs k) B Q (cost bs j) (cost (b ∷ bs) j) es w (omega arith) (s-numbers bs rest k j es w (skip (eq_is b 0 zero)) then_))
      | inr some ↦
          let ne : b ≢ 0 = (λ e. absurd (let q : false ≡ true = sym some ∙ ap (λ (c : ℕ). c == 0) e in cc)) in
          let own = left.owns.0 ne in
          subst (λ (p : P M A). Wp M h B Q p (cost (b ∷ bs) j) es w) (sym (is_some some))
          (Wp-more M h (bind (free_block sizes.bmapstart b) (λ _. free_numbers sizes.bmapstart bs k)) B Q (suc (suc (suc (cost bs j)))) (cost (b ∷ bs) j) es w (omega arith)
          (s-give sizes l laws keeps h lt B Q G stable n changing b own.0 (Knows (suc (length (bs ++ rest)))) (Knows (length (bs ++ rest))) (room (length (bs ++ rest))) (λ _. free_numbers sizes.bmapstart bs k) (cost bs j) es w left.stage left.few left.free left.at left.since.lock own.1 left.knows
          (λ x gs gave knows. s-numbers bs rest k j gs x (less own.2 own.0 x gs gave knows) then_)))
    ]
      where
        is_zero : (b == 0) ≡ true → free_numbers sizes.bmapstart (b ∷ bs) k ≡ free_numbers sizes.bmapstart bs k
        is_zero e = rw e refl

        is_some : (b == 0) ≡ false → free_numbers {M = M.Mark} sizes.bmapstart (b ∷ bs) k ≡ bind (free_block sizes.bmapstart b) (λ _. free_numbers sizes.bmapstart bs k)
        is_some e = rw e refl

        skip : b ≡ 0 → Left (bs ++ rest) es w
        skip e = record {
          stage = left.stage;
          since = left.since;
          kept = left.kept;
          few = left.few;
          free = left.free;
          at = left.at;
          owns = left.owns.1;
          named = nothing_owed (disk_of (log_of w.real)) w.real.owner n (bs ++ rest) (subst (λ (c : ℕ). NamesOwned (disk_of (log_of w.real)) w.real.owner n (c ∷ bs ++ rest)) e left.named);
          knows = fewer (length (bs ++ rest)) w.real left.knows;
        }

        less : Avoids b (bs ++ rest) → IsData sizes b → (x : W) (gs : List l.Step) → Gave h n b (G gs) w x → Knows (length (bs ++ rest)) x.real → Left (bs ++ rest) gs x
        less apart block x gs gave knows = record {
          stage = gave.stage;
          since = one_more_block h n b start.real w.real x.real left.since gave.since gave.held;
          kept = kept_then h start.seen w.seen x.seen left.kept gave.kept;
          few = let same = gave.held in let few = left.few in omega (arith, same, few);
          free = λ e. absurd (let q : None ≡ Some h = sym (ap (λ (s : Super). holder_of s.bmapstart (log_of x.real).seats) (sym left.at) ∙ gave.since.back) ∙ e in cc);
          at = gave.since.sizes ∙ left.at;
          owns = owns_then sizes w.real.owner x.real.owner n b (bs ++ rest) (λ c ne is_data mine. gave.since.owned c ne (subst (λ (s : Super). IsData s c) (sym left.at) is_data) mine) apart left.owns.1;
          named = gave.since.named (bs ++ rest) left.named;
          knows = knows;
        }
