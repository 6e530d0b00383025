-- The content of an inode given back: the blocks of its own numbers, those in its indirect block, and that block. The
-- second are given back while that block's buffer is in hand.
use Rattle.inodes_on_blocks.proofs.Vocabulary.{◌≡◌, ◌≢◌, ℕ, suc, ◌+◌, ◌*◌, ◌<◌, ◌≤◌, ◌==◌, Bool, true, false, List, [], ◌∷◌, ◌++◌, length, take, refl, sym, ◌∙◌, ap, subst, arith, Some, if◌then◌else◌, Super, Dinode, numbers_in, recovered, sizes_of, IsOutsideLog, length-u32s_at, holder_of, hart_count, eq_is, eq_not, IsData, indirect_numbers, NamesOwned, IsUntouched, bind, Machine, Laws, P, Wp, Both, joined, Stable, Wp-more, lock_holder, fetch, seen_of, free_block, table_of, free_numbers, free_table, free_in_table, free_indirect, direct, if_kept, Inv, World, log_of, tables_of, disk_of, inode_in, Shows, KeepsInode, Kept, below, buffer_in, undertaken, Labels, labelled, Keeps, in_hand, SameBut, IsFetched, PutBack, IsChanging, Owns, KeepsRoom, GaveBlocks, numbers_per_block}
use Rattle.inodes_on_blocks.proofs.Basics.{nothing_owed, good_seen, kept_same, kept_then, data_place, s-fetch, s-back, below_laws, held_back, untouched_then, block_shown, empty_hand, given_order}
use Rattle.inode_machine.specs.World as above
use Rattle.inodes_on_blocks.proofs.Emptying.{none_yet, s-numbers}

-- ---- numbers that are left

owns_kept : (sizes : Super) (owner owner' : ℕ → ℕ) (n : ℕ) (bs : List ℕ) → ((c : ℕ) → IsData sizes c → owner c ≡ n → owner' c ≡ n) → Owns sizes owner n bs → Owns sizes owner' n bs
owns_kept sizes owner owner' n [] stays owns = tt
owns_kept sizes owner owner' n (b ∷ bs) stays owns = (λ some. let at = owns.0 some in (at.0, stays b at.0 at.1, at.2), owns_kept sizes owner owner' n bs stays owns.1)

owns_last : (sizes : Super) (owner : ℕ → ℕ) (n t : ℕ) (bs : List ℕ) → t ≢ 0 → Owns sizes owner n (bs ++ t ∷ []) → IsData sizes t × (owner t ≡ n)
owns_last sizes owner n t [] some owns = let at = owns.0 some in (at.0, at.1)
owns_last sizes owner n t (b ∷ bs) some owns = owns_last sizes owner n t bs some owns.1

pub named_kept : (disk new : List (List ℕ)) (owner owner' : ℕ → ℕ) (n : ℕ) (numbers : List ℕ) → IsUntouched disk new owner owner' n → NamesOwned disk owner n numbers → NamesOwned new owner' n numbers
named_kept disk new owner owner' n numbers u named c is_data own = let there = subst (λ (s : Super). IsData s c) u.sizes is_data in named c there (u.alone c there own)

-- ---- what the hart has left, beside its buffers

pub record Gone (h n : ℕ) (v w : World) : Type 0 where
  pub inodes : (i : ℕ) → i ≢ n → lock_holder i (tables_of v) ≡ Some h → KeepsInode h i v w
  pub lock : lock_holder n (tables_of w) ≡ Some h
  pub no_more : (i : ℕ) → lock_holder i (tables_of w) ≡ Some h → lock_holder i (tables_of v) ≡ Some h
  pub sizes : (log_of w).sizes ≡ (log_of v).sizes
  pub inode : inode_in (log_of w) n ≡ inode_in (log_of v) n
  pub taken : (c : ℕ) → if_kept (w.taken c) h (seen_of (log_of w) c) ≡ if_kept (v.taken c) h (seen_of (log_of v) c)
  pub begun : undertaken h w ≡ undertaken h v

gone_blocks : (h n : ℕ) (v w : World) → GaveBlocks h n v w → Gone h n v w
gone_blocks h n v w g = record { inodes = g.inodes; lock = g.lock; no_more = g.no_more; sizes = g.sizes; inode = g.inode; taken = g.taken; begun = g.begun }

gone_but : (h n b : ℕ) (v w : World) → lock_holder n (tables_of v) ≡ Some h → SameBut h b v w → Gone h n v w
gone_but h n b v w mine s =
    let this = s.inodes n mine in
    record { inodes = λ i ne e. s.inodes i e; lock = this.lock; no_more = s.no_more; sizes = s.sizes; inode = this.untouched.inode; taken = s.taken; begun = s.begun }

gone_then : (h n : ℕ) (u v w : World) → Gone h n u v → Gone h n v w → Gone h n u w
gone_then h n u v w p q = record {
  inodes = λ i ne e.
      let x = p.inodes i ne e in
      let y = q.inodes i ne x.lock in
      record { lock = y.lock; untouched = untouched_then (disk_of (log_of u)) (disk_of (log_of v)) (disk_of (log_of w)) u.owner v.owner w.owner i x.untouched y.untouched };
  lock = q.lock;
  no_more = λ i e. p.no_more i (q.no_more i e);
  sizes = q.sizes ∙ p.sizes;
  inode = q.inode ∙ p.inode;
  taken = λ c. q.taken c ∙ p.taken c;
  begun = q.begun ∙ p.begun;
}

-- the steps for a content at most, and j more
abbrev pub content_steps : ℕ → ℕ
content_steps j = 3 * direct + (suc (suc (3 * numbers_per_block + suc (3 * 1 + j))))

-- ---- the rules

module _ (sizes : Super) (l : Labels) (laws : Laws (labelled sizes.version l)) (keeps : Keeps l) (h : ℕ) (lt : h < hart_count) (B : List l.Step → Type 0) where
  abbrev W : Type 0
  W = Both World above.World

  abbrev M : Machine
  M = joined (labelled sizes.version l) (below sizes)

  -- what is seen on the disk has these sizes
  disk_sizes : (v : World) (g : above.World) → Shows v g → (log_of v).sizes ≡ sizes → sizes_of (disk_of (log_of v)) ≡ sizes
  disk_sizes v g shows at = (good_seen (log_of v).sizes (seen_of (log_of v)) (length (log_of v).contents) shows.blocks.seen).sizes_are ∙ at

  module _ {A : Type 0} (Q : A → List l.Step → W → Type 0) (G : List l.Step → above.World → Type 0) (stable : Stable (labelled sizes.version l) (below sizes) laws (below_laws sizes l keeps) h B G)
      (n : ℕ) (changing : (fs : List l.Step) (g : above.World) → G fs g → Inv g → IsChanging h n g) (Knows : World → Type 0) (room : KeepsRoom h sizes.bmapstart Knows Knows) where
    -- Without a buffer in hand, after `start`: these blocks of the inode are left.
    pub record Between (start : W) (rest : List ℕ) (fs : List l.Step) (w : W) : Type 0 where
      pub stage : G fs w.seen
      pub gone : Gone h n start.real w.real
      pub kept : Kept h start.seen w.seen
      pub none : in_hand h w.real ≡ 0
      pub at : (log_of w.real).sizes ≡ sizes
      pub owns : Owns sizes w.real.owner n rest
      pub named : NamesOwned (disk_of (log_of w.real)) w.real.owner n rest
      pub knows : Knows w.real

    -- some of them are given back
    s-some : (start : W) (bs rest : List ℕ) (k : P M A) (j : ℕ) (es : List l.Step) (w : W) → Between start (bs ++ rest) es w
        → ((x : W) (gs : List l.Step) → GaveBlocks h n w.real x.real → Between start rest gs x → Wp M h B Q k j gs x) → Wp M h B Q (free_numbers sizes.bmapstart bs k) (3 * length bs + j) es w
    s-some start bs rest k j es w here then_ =
        s-numbers sizes l laws keeps h lt B Q G stable n changing (λ more. Knows) (λ more. room) (λ more v known. known) w bs rest k j es w
        (record {
          stage = here.stage;
          since = none_yet h n w.real here.gone.lock;
          kept = kept_same h w.seen;
          few = (let none = here.none in omega (arith, none));
          free = empty_hand h sizes.bmapstart w.real here.none;
          at = here.at;
          owns = here.owns;
          named = here.named;
          knows = here.knows;
        })
        (λ x gs left.
        then_ x gs left.since (record {
          stage = left.stage;
          gone = gone_then h n start.real w.real x.real here.gone (gone_blocks h n w.real x.real left.since);
          kept = kept_then h start.seen w.seen x.seen here.kept left.kept;
          none = left.since.held ∙ here.none;
          at = left.at;
          owns = left.owns;
          named = left.named;
          knows = left.knows;
        }))

    -- ---- the indirect block

    module _ (start : W) (t : ℕ) (some : t ≢ 0) (k : P M A) (j : ℕ) (rest : (x : W) (gs : List l.Step) → Between start [] gs x → Wp M h B Q k j gs x) where
      abbrev bitmap : ℕ
      bitmap = sizes.bmapstart

      -- the steps from the one that gives its buffer back
      abbrev last_steps : ℕ
      last_steps = suc (3 * 1 + j)

      place : (v : World) (g : above.World) → Shows v g → (log_of v).sizes ≡ sizes → IsData sizes t → IsOutsideLog (log_of v).sizes t × (t < (log_of v).sizes.size)
      place v g shows at is = data_place v g shows t (subst (λ (s : Super). IsData s t) (sym (disk_sizes v g shows at)) is)

      -- from the step that begins to give back the blocks whose numbers are in it
      back : (w v x : W) (gs : List l.Step) → IsData sizes t → IsOutsideLog sizes t → G gs x.seen → Gone h n start.real x.real → Kept h start.seen x.seen → in_hand h x.real ≡ 1 → (log_of x.real).sizes ≡ sizes
          → Owns sizes x.real.owner n (t ∷ []) → NamesOwned (disk_of (log_of x.real)) x.real.owner n (t ∷ []) → Knows x.real → holder_of t (log_of x.real).seats ≡ Some h
          → Wp M h B Q (free_table bitmap t k) last_steps gs x
      back w v x gs is outside stage gone kept one at owns named knows holder =
          s-back sizes l laws keeps h lt B Q G stable t (λ _. bind (free_block bitmap t) (λ _. k)) (3 * 1 + j) gs x stage holder (subst (λ (s : Super). IsOutsideLog s t) (sym at) outside)
          (λ y hs put_back.
          subst (λ (p : P M A). Wp M h B Q p (3 * 1 + j) hs y) is_one (s-some start (t ∷ []) [] k j hs y (between y hs put_back) (λ z is gave all. rest z is all)))
        where
          is_one : free_numbers {M = M.Mark} bitmap (t ∷ []) k ≡ bind (free_block bitmap t) (λ _. k)
          is_one = rw (eq_not t 0 some) refl

          between : (y : W) (hs : List l.Step) → PutBack h t (G hs) x y → Between start (t ∷ []) hs y
          between y hs put_back =
              let this = (put_back.since.inodes n gone.lock).untouched in
              let at_y : (log_of y.real).sizes ≡ sizes = put_back.since.sizes ∙ at in
              let was : sizes_of (disk_of (log_of x.real)) ≡ sizes = sym this.sizes ∙ disk_sizes y.real y.seen put_back.shows at_y in
              record {
                stage = put_back.stage;
                gone = gone_then h n start.real x.real y.real gone (gone_but h n t x.real y.real gone.lock put_back.since);
                kept = kept_then h start.seen x.seen y.seen kept put_back.kept;
                none = (let down = put_back.count in omega (arith, down, one));
                at = at_y;
                owns = owns_kept sizes x.real.owner y.real.owner n (t ∷ []) (λ c is_data own. (this.blocks c (subst (λ (s : Super). IsData s c) (sym was) is_data) own).1) owns;
                named = named_kept (disk_of (log_of x.real)) (disk_of (log_of y.real)) x.real.owner y.real.owner n (t ∷ []) this named;
                knows = room.gives.fetched t x.real y.real put_back.since knows;
              }

      abbrev table_steps : ℕ
      table_steps = suc (suc (3 * numbers_per_block + last_steps))

      -- it is fetched, and then the blocks whose numbers are in it are given back, and itself
      s-table : (es : List l.Step) (w : W) (ns : List ℕ) → Between start (ns ++ t ∷ []) es w → numbers_in (recovered (disk_of (log_of w.real)) t) ≡ ns → Wp M h B Q (bind (fetch t) (free_in_table bitmap t k)) table_steps es w
      s-table es w ns here is =
          s-fetch sizes l laws keeps h lt B Q G stable t (free_in_table bitmap t k) (3 * numbers_per_block + last_steps) es w here.stage (let none = here.none in omega (arith, none))
          (λ v fs there. place v.real v.seen there.shows (there.same.sizes ∙ here.at) own.0) (empty_hand h t w.real here.none) (λ v fs got. listed v fs got)
        where
          own : IsData sizes t × (w.real.owner t ≡ n)
          own = owns_last sizes w.real.owner n t ns some here.owns

          listed : (v : W) (fs : List l.Step) → IsFetched h t (G fs) w v → Wp M h B Q (free_in_table bitmap t k (seen_of (log_of v.real) t)) (3 * numbers_per_block + last_steps) fs v
          listed v fs got =
              subst (λ (z : ℕ). Wp M h B Q (free_in_table bitmap t k (seen_of (log_of v.real) t)) (3 * z + last_steps) fs v) (length-u32s_at numbers_per_block (seen_of (log_of v.real) t) 0)
              (s-numbers sizes l laws keeps h lt B Q G stable n changing (λ more. Knows) (λ more. room) (λ more u known. known) v inside (t ∷ []) (free_table bitmap t k) last_steps fs v
              (record {
                stage = got.stage;
                since = none_yet h n v.real this.lock;
                kept = kept_same h v.seen;
                few = (let up = got.count in let none = here.none in omega (arith, up, none));
                free = λ e. empty_hand h bitmap w.real here.none (held_back (holder_of bitmap (log_of v.real).seats) (holder_of bitmap (log_of w.real).seats) h (buffer_in (log_of v.real) bitmap) (buffer_in (log_of w.real) bitmap) (got.since.buffers bitmap apart) e).0;
                at = at_v;
                owns = subst (λ (z : List ℕ). Owns sizes v.real.owner n (z ++ t ∷ [])) (sym same) (owns_kept sizes w.real.owner v.real.owner n (ns ++ t ∷ []) (λ c is_data mine. (this.untouched.blocks c (subst (λ (s : Super). IsData s c) (sym was) is_data) mine).1) here.owns);
                named = subst (λ (z : List ℕ). NamesOwned (disk_of (log_of v.real)) v.real.owner n (z ++ t ∷ [])) (sym same)
                    (named_kept (disk_of (log_of w.real)) (disk_of (log_of v.real)) w.real.owner v.real.owner n (ns ++ t ∷ []) this.untouched here.named);
                knows = room.gives.fetched t w.real v.real got.since here.knows;
              })
              (λ x gs left.
              back w v x gs own.0 (subst (λ (s : Super). IsOutsideLog s t) at_v at_place.0) left.stage
              (gone_then h n start.real v.real x.real (gone_then h n start.real w.real v.real here.gone (gone_but h n t w.real v.real here.gone.lock got.since)) (gone_blocks h n v.real x.real left.since))
              (kept_then h start.seen v.seen x.seen (kept_then h start.seen w.seen v.seen here.kept got.kept) left.kept) (left.since.held ∙ got.count ∙ ap suc here.none) left.at left.owns left.named left.knows
              (held_back (holder_of t (log_of v.real).seats) (holder_of t (log_of x.real).seats) h (buffer_in (log_of v.real) t) (buffer_in (log_of x.real) t)
              (sym (left.since.buffers t (λ e. apart (sym (e ∙ ap (λ (s : Super). s.bmapstart) at_v))))) got.buffer.holder).0))
            where
              this : KeepsInode h n w.real v.real
              this = got.since.inodes n here.gone.lock

              at_v : (log_of v.real).sizes ≡ sizes
              at_v = got.since.sizes ∙ here.at

              was : sizes_of (disk_of (log_of w.real)) ≡ sizes
              was = sym this.untouched.sizes ∙ disk_sizes v.real v.seen got.shows at_v

              at_place : IsOutsideLog (log_of v.real).sizes t × (t < (log_of v.real).sizes.size)
              at_place = place v.real v.seen got.shows at_v own.0

              apart : bitmap ≢ t
              apart e = let past = own.0.0 in absurd (omega (arith, past, e))

              inside : List ℕ
              inside = numbers_in (seen_of (log_of v.real) t)

              same : inside ≡ ns
              same =
                  ap numbers_in (sym (block_shown v.real v.seen got.shows t at_place.1 at_place.0) ∙ (this.untouched.blocks t (subst (λ (s : Super). IsData s t) (sym was) own.0) own.1).0) ∙ is

    -- ---- all of them

    pub s-content : (start : W) (d : Dinode) (k : P M A) (j : ℕ) (es : List l.Step) (w : W) → length (take direct d.addrs) ≤ direct → Between start (given_order (disk_of (log_of w.real)) d) es w
        → ((x : W) (gs : List l.Step) → Between start [] gs x → Wp M h B Q k j gs x)
        → Wp M h B Q (free_numbers sizes.bmapstart (take direct d.addrs) (free_indirect sizes.bmapstart (table_of d) k)) (content_steps j) es w
    s-content start d k j es w few here rest =
        Wp-more M h (free_numbers sizes.bmapstart (take direct d.addrs) (free_indirect sizes.bmapstart (table_of d) k)) B Q (3 * length (take direct d.addrs) + after) (content_steps j) es w (omega (arith, few))
        (s-some start (take direct d.addrs) (indirect_numbers (disk_of (log_of w.real)) d ++ table_of d ∷ []) (free_indirect sizes.bmapstart (table_of d) k) after es w here (λ x gs gave now. indirect x gs gave now (table_of d == 0) refl))
      where
        after : ℕ
        after = suc (suc (3 * numbers_per_block + suc (3 * 1 + j)))

        indirect : (x : W) (gs : List l.Step) → GaveBlocks h n w.real x.real → Between start (indirect_numbers (disk_of (log_of w.real)) d ++ table_of d ∷ []) gs x → (b : Bool) → (table_of d == 0) ≡ b
            → Wp M h B Q (free_indirect sizes.bmapstart (table_of d) k) after gs x
        indirect x gs gave now true e =
            subst (λ (p : P M A). Wp M h B Q p after gs x) (λ i. if (sym e i) then k else bind (fetch (table_of d)) (free_in_table sizes.bmapstart (table_of d) k))
            (Wp-more M h k B Q j after gs x (omega arith)
            (rest x gs (record {
              stage = now.stage;
              gone = now.gone;
              kept = now.kept;
              none = now.none;
              at = now.at;
              owns = tt;
              named = nothing_owed (disk_of (log_of x.real)) x.real.owner n [] (subst (λ (z : List ℕ). NamesOwned (disk_of (log_of x.real)) x.real.owner n z) zeros now.named);
              knows = now.knows;
            })))
          where
            zeros : indirect_numbers (disk_of (log_of w.real)) d ++ table_of d ∷ [] ≡ 0 ∷ []
            zeros = λ i. (if (e i) then [] else numbers_in (recovered (disk_of (log_of w.real)) (table_of d))) ++ eq_is (table_of d) 0 e i ∷ []
        indirect x gs gave now false e =
            subst (λ (p : P M A). Wp M h B Q p after gs x) (λ i. if (sym e i) then k else bind (fetch (table_of d)) (free_in_table sizes.bmapstart (table_of d) k))
            (s-table start (table_of d) some k j rest gs x (numbers_in (recovered (disk_of (log_of x.real)) (table_of d)))
            (subst (λ (z : List ℕ). Between start (z ++ table_of d ∷ []) gs x) same now) refl)
          where
            some : table_of d ≢ 0
            some z = absurd (let q : false ≡ true = sym e ∙ ap (λ (c : ℕ). c == 0) z in cc)

            own : IsData sizes (table_of d) × (x.real.owner (table_of d) ≡ n)
            own = owns_last sizes x.real.owner n (table_of d) (indirect_numbers (disk_of (log_of w.real)) d) some now.owns

            same : indirect_numbers (disk_of (log_of w.real)) d ≡ numbers_in (recovered (disk_of (log_of x.real)) (table_of d))
            same =
                ap (λ (b : Bool). if b then [] else numbers_in (recovered (disk_of (log_of w.real)) (table_of d))) e
                ∙ ap numbers_in (sym (gave.content (table_of d) (subst (λ (s : Super). IsData s (table_of d)) (sym (sym gave.sizes ∙ now.at)) own.0) own.1).1)
