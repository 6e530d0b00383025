-- The law of a block taken.
use Rattle.inodes_on_blocks.proofs.Vocabulary.{slice_index, ◌≡◌, inl, inr, ℕ, List, [], length, Option, Some, None, refl, sym, ◌∙◌, subst, arith, Dinode, Super, sizes_of, IsData, Node, Ret, bind, Machine, P, Wp, Both, joined, Stable, seen_of, take_block, Spent, with_contents, World, log_of, disk_of, inode_in, whole, alone, Done, in_hand, Carry, Kept, below, HasSpent, ChangesStill, TookOne, BlocksAreTaken, direct}
use Rattle.inodes_on_blocks.proofs.Basics.{good_seen, alone_laws, alone_keeps, kept_then, below_laws, kept_disk, empty_hand, lock_range, seen_dinode, other_spends, spent_gives, spent_stays, s-here}
use Rattle.inode_machine.specs.World as above
use Rattle.inodes_on_blocks.proofs.BlockTaking.{Took, TookNone, s-take}
use Rattle.inodes_on_blocks.proofs.Changing.{changing_start}
use Rattle.inodes_on_blocks.proofs.Given.{Changing as IsStage, bind-end, stays}

abbrev M : Super → Machine
M sizes = joined (whole sizes.version) (below sizes)

abbrev Ends : (sizes : Super) (h n : ℕ) → Carry → Dinode → Node → Spent → Both World above.World → Option ℕ → List Done → Both World above.World → Type 0
Ends sizes h n c d x s w a es v = (es ≡ []) × ChangesStill h n c d x w v × TookOne sizes h s a v.real

-- if none was free, and if one was
module _ (sizes : Super) (h n t : ℕ) (c : Carry) (o : Option Node) (d : Dinode) (x : Node) (s : Spent) (w v z : Both World above.World) (gs : List Done) (kept : Kept h w.seen v.seen) (none : in_hand h v.real ≡ 0) where
  took_none : TookNone h n t (IsStage h n gs) c o d x (HasSpent sizes h s) v z → Ends sizes h n c d x s w None gs z
  took_none took = (
    took.stage.none,
    record {
      changing = took.stage.is;
      kept = kept_then h w.seen v.seen z.seen kept took.kept;
      shows = took.shows;
      content = took.changing.laid.content;
      inodes = took.changing.others;
      free = took.count ∙ none;
    },
    took.known,
  )

  took_one : (b : ℕ) → (log_of v.real).sizes ≡ sizes → Took h n b t (IsStage h n gs) c o d x (HasSpent sizes h (with_contents 1 s)) v z → Ends sizes h n c d x s w (Some b) gs z
  took_one b at took =
      let here : sizes_of (disk_of (log_of z.real)) ≡ sizes = (good_seen (log_of z.real).sizes (seen_of (log_of z.real)) (length (log_of z.real).contents) took.shows.blocks.seen).sizes_are ∙ took.sizes_same ∙ at in (
        took.stage.none,
        record {
          changing = took.stage.is;
          kept = kept_then h w.seen v.seen z.seen kept took.kept;
          shows = took.shows;
          content = took.spare.laid.content;
          inodes = took.spare.others;
          free = took.count ∙ none;
        },
        (
          record {
            block = subst (λ (q : Super). IsData q b) here took.spare.spare.owned.block;
            taken = took.spare.taken;
            marked = (let shown = took.shows.taken b h took.spare.taken in took.shows.blocks.running.no_others.free b took.spare.spare.owned.block shown.0 ∙ shown.1);
            unowned = (took.shows.taken b h took.spare.taken).0;
            zeros_are = took.zeros_are;
          },
          took.known,
        ),
      )

pub blocks_are_taken : BlocksAreTaken
blocks_are_taken sizes h n c x s w lt is free stands mine node has few spent =
    subst (λ (p : P (M sizes) (Option ℕ)). Wp (M sizes) h (λ es. es ≡ []) (Ends sizes h n c (inode_in (log_of w.real) n) x s w) p 6 [] w) (bind-end (take_block sizes.bmapstart sizes.size))
    (s-here sizes alone (alone_laws sizes.version) alone_keeps h lt (λ es. es ≡ []) (bind (take_block sizes.bmapstart sizes.size) (λ a. Ret a)) (Ends sizes h n c (inode_in (log_of w.real) n) x s w) (IsStage h n) stable tt 6 [] w (record { none = refl; is = is; keeps = (stands.0.inodes n mine).keeps; free = free })
    (λ v fs here.
    let stands_v = (below_laws sizes alone alone_keeps).base h w.real v.real w.seen v.seen c here.same here.kept stands in
    let lock_v = sym (here.shows.tables.places.holders n) ∙ here.stage.is.lock in
    let node_v : v.seen.disk n ≡ Some x = (kept_disk h n w.seen v.seen here.kept stands.0.lent (stands.0.inodes n mine).keeps).1 ∙ node in
    let same : inode_in (log_of v.real) n ≡ inode_in (log_of w.real) n = (here.same.inodes n mine).untouched.inode in
    let changing = changing_start h n c x v.real v.seen stands_v.0 lock_v node_v in
    let long = (seen_dinode v.real v.seen here.shows n (lock_range n h v.real v.seen here.shows here.stage.is.lock).1).thirteen in
    s-take sizes alone (alone_laws sizes.version) alone_keeps h lt (λ es. es ≡ []) (Ends sizes h n c (inode_in (log_of w.real) n) x s w) (IsStage h n) stable n (λ gs g st i. st.is) c (Some x) (inode_in (log_of v.real) n) x long (HasSpent sizes h s) (λ b. HasSpent sizes h (with_contents 1 s))
    (spent_gives sizes h sizes.bmapstart s (inr (has, refl)) (omega (arith, few))) (λ b. other_spends sizes h b s few) (λ a. Ret a) 0 v (let none = stands_v.0.free in omega (arith, none)) (λ q ne. empty_hand h q v.real stands_v.0.free) stands_v.1 here.shows changing (spent_stays sizes h s w.real v.real here.same spent)
    (λ z gs took. subst (λ (e : Dinode). Ends sizes h n c e x s w None gs z) same (took_none sizes h n (slice_index (inode_in (log_of v.real) n).addrs direct) c (Some x) (inode_in (log_of v.real) n) x s w v z gs here.kept stands_v.0.free took))
    (λ b z gs took. subst (λ (e : Dinode). Ends sizes h n c e x s w (Some b) gs z) same (took_one sizes h n (slice_index (inode_in (log_of v.real) n).addrs direct) c (Some x) (inode_in (log_of v.real) n) x s w v z gs here.kept stands_v.0.free b stands_v.1 took))
    fs here.stage))
  where
    stable : Stable (whole sizes.version) (below sizes) (alone_laws sizes.version) (below_laws sizes alone alone_keeps) h (λ es. es ≡ []) (IsStage h n)
    stable fs xs g u o i st = (λ y. inl o.0, stays h n xs fs g u o st)
