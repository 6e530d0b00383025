-- An operation that puts an inode's record after its blocks were written acts at the put.
use Rattle.inodes_on_blocks.proofs.Vocabulary.{◌≡◌, inl, inr, ℕ, ◌+◌, ◌^◌, ◌<◌, ◌≤◌, List, length, max, Option, Some, None, sym, ◌∙◌, ap, subst, arith, Dinode, Super, IsDinode, Node, put, hart_count, same_or, put_same, put_other, Ran, bind, Laws, Machine, Wp, Both, joined, Below, Lasts, Handover, ToAct, Wp-weaker, fetch, inode_block, Spent, size, with_contents, most_recorded, IsSpent, World, put_grown, Carry, below, Labels, labelled, Keeps, put_named, IsChanging, HasSpent}
use Rattle.fs_machine.specs.InMemory.{IndexState}
use Rattle.inode_machine.specs.World as above
use Rattle.inode_machine.specs.Exec as above_exec
use Rattle.inode_machine.specs.Rules as rules
use Rattle.inodes_on_blocks.specs.Indexes.{IsIndexOf}
use Rattle.inodes_on_blocks.proofs.Basics.{HasBlocks, blocks_end, named_room, below_laws}
use Rattle.inodes_on_blocks.proofs.LocateSteps.{Between, Fits}
use Rattle.inodes_on_blocks.proofs.NamingSteps.{naming_keeps}
use Rattle.inodes_on_blocks.proofs.NumberPuts.{sized}

-- a node put where it is
pub record_same : (g : above.World) (n : ℕ) (x : Node) → g.disk n ≡ Some x → above_exec.with_record g n (Some x) ≡ g
record_same g n x is = λ z. record g { disk = λ k. there k z }
  where
    there : (k : ℕ) → put g.disk n (Some x) k ≡ g.disk k
    there k = elim (same_or k n) [
      | inl e ↦ ap (put g.disk n (Some x)) e ∙ put_same g.disk n (Some x) ∙ sym (ap g.disk e ∙ is)
      | inr ne ↦ put_other g.disk n (Some x) k ne
    ]

sized_fits : (z : ℕ) (d : Dinode) → z < 2 ^ 32 → IsDinode d → IsDinode (sized z d)
sized_fits z d small fits = record { kind = fits.kind; major = fits.major; minor = fits.minor; nlink = fits.nlink; size = small; thirteen = fits.thirteen; addrs = fits.addrs }

module _ (sizes : Super) (l : Labels) (laws : Laws (labelled sizes.version l)) (keeps : Keeps l) (h : ℕ) (lt : h < hart_count) (n : ℕ) where
  abbrev W : Type 0
  W = Both World above.World

  abbrev M : Machine
  M = joined (labelled sizes.version l) (below sizes)

  module _ (op : above.Op) (m : above.Answer op → Option above.Mark) (c : Carry) (asks : (g : above.World) → rules.May sizes.version h op g → IsChanging h n g × ((g.desks h).lender ≡ None))
      (B : List l.Step → Type 0) (C : above.Answer op → List l.Step → above.World → Type 0) (lasts : Lasts (labelled sizes.version l) h B C)
      (o : Option Node) (s : Spent) (named : IsSpent sizes s (inode_block sizes.inodestart n)) (most : ℕ) (room : size s + most ≤ most_recorded) where
    abbrev pub Ends : Handover (above.Answer op) Carry → List l.Step → W → Type 0
    Ends r fs u = Below (labelled sizes.version l) (below sizes) h C r fs u × HasSpent sizes h (with_contents most s) u.real

    -- The record d that the program has, of size `was`, goes back with what was written up to an offset. It is laid
    -- out so for node x.
    pub s-grown : (outside : above.Outside) (answer : above.Answer op) (x : Node) (index : IndexState) (right : IsIndexOf sizes.version index (Some x)) (was z upto : ℕ) (d : Dinode) (bs : List ℕ) → ((v : W) → rules.Honest h op v.seen outside)
        → ((g : above.World) → rules.May sizes.version h op g → g.disk n ≡ o → above_exec.exec sizes.version h outside op g ≡ Ran answer (above_exec.with_record g n (Some x)))
        → Fits was d → max was upto ≡ z → z < 2 ^ 32 → length bs ≤ most → (es : List l.Step) (w : W)
        → Between sizes h n (ToAct (labelled sizes.version l) (below sizes) laws (below_laws sizes l keeps) h B op m C lasts es) c o (sized z d) x (HasBlocks sizes h s bs) w
        → Wp M h B Ends (put_grown op outside m answer sizes n c index (record { inode = d; upto = upto })) 3 es w
    s-grown outside answer x index right was z upto d bs honest ran fits whole small few es w there =
        let grew : max d.size upto ≡ z = ap (λ (q : ℕ). max q upto) fits.1 ∙ whole in
        Wp-weaker M h (put_grown op outside m answer sizes n c index (record { inode = d; upto = upto })) B B (λ r fs u. Below (labelled sizes.version l) (below sizes) h C r fs u × HasBlocks sizes h s bs u.real) Ends 3 es w (λ fs e. e)
        (λ r fs u e. (e.0, blocks_end sizes h s bs most u.real few e.1))
        (subst (λ (q : ℕ). Wp M h B (λ r fs u. Below (labelled sizes.version l) (below sizes) h C r fs u × HasBlocks sizes h s bs u.real) (bind (fetch (inode_block sizes.inodestart n)) (put_named op outside m answer (inode_block sizes.inodestart n) n (record { inode = sized q d; index = index }) c)) 3 es w) (sym grew)
        (naming_keeps sizes l laws keeps h lt n op outside m answer c o (sized z d) x index right (sized_fits z d small fits.0) honest asks ran (HasBlocks sizes h s bs) (HasBlocks sizes h s bs)
        (named_room sizes h (inode_block sizes.inodestart n) s bs named (omega (arith, room, few))) B C lasts es w there.stage there.shows there.changing there.none there.at there.known))
