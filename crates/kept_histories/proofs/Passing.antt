-- An event in which no call ran: a start, or one that shows nothing. The theory's state, code's harts and the kept tree agree after it.
use Rattle.std.specs.Prelude.{◌≡◌, ◌≢◌, ◌⊎◌, ◌<◌, ◌-◌, ◌^◌, ℕ, not, List, Option, Some, None, length, get_or}
use Rattle.calls_on_blocks.proofs.Vocabulary.{refl, sym, ◌∙◌, ap, subst, inl, inr}
use Rattle.atomic_programs.proofs.Explains.{changed_other, changed_same}
use Rattle.atomic_programs.proofs.Maps.{same_or}
use Rattle.atomic_programs.specs.Calls.{State, changed}
use Rattle.atomic_programs.specs.Plain.{erase}
use Rattle.calls_on_blocks.specs.History.{block_moves}
use Rattle.calls_on_blocks.specs.Theory.{block_calls, block_code}
use Rattle.fs_layout.specs.declared.superblock.Super.{Super}
use Rattle.fs_machine.specs.declared.hand.Hand.{Hand}
use Rattle.hart_core.specs.Harts.{HartsOf}
use Rattle.hart_core.specs.Telling.{SetsAt, StaysAt}
use Rattle.hart_core.specs.Worlds.{calls_of}
use Rattle.inode_machine.specs.Programs.{program}
use Rattle.inode_parts.specs.Telling.{BeginsAsking}
use Rattle.inode_parts.specs.declared.lowered.Lowered.{Lowered}
use Rattle.inodes_on_blocks.specs.Lowering.{nothing}
use Rattle.plain_tree.specs.declared.call.Call.{Call}
use Rattle.run_laws.specs.UnderWay.{UnderWay, at_beginning, none_ran}
use Rattle.image_versions.specs.declared.version.Version.{Version}
use Rattle.syscalls.specs.Machines.{Running}
use Rattle.syscalls.specs.Places.{HasBegun}
use Rattle.tree_histories.proofs.Harts.{other_hart, same_hart, stage_put, walk_same}
use Rattle.tree_histories.proofs.Vocabulary.{cases_lt, get_or-eq_default}
use Rattle.tree_histories.specs.Keeping.{IsNewCall, KeptTree, Under, hart_in, stage_of, walk_under}
use Rattle.tree_histories.specs.Walks.{walk_of}
use Rattle.std.specs.Option.{option_map}
use Rattle.tree_laws.specs.History.{History, passes, starts}
use Rattle.tree_laws.specs.Vocabulary.{hart_count}
use Rattle.whole_calls.specs.Wholes.{call_in}
use Rattle.kept_histories.specs.Keeps.{Passes as JustPasses, Starts}
use Rattle.kept_histories.proofs.Agreeing.{Agrees, other_call}
use Rattle.kept_histories.proofs.Standing.{Begins, StandsAt, begins}
use Rattle.kept_histories.proofs.Together.{HartAt, Together}

-- ---- one hart

module _ (sizes : Super) where
  pub stays_at : (u : Option UnderWay) (m n : Option Running) (v : Option Under) → HartAt sizes u m v → StaysAt m n → HartAt sizes u n v
  stays_at u None n v at stays = subst (λ (z : Option Running). HartAt sizes u z v) (sym stays) at
  stays_at u (Some m) None v at stays = absurd stays
  stays_at None (Some m) (Some n) v at stays = absurd at
  stays_at (Some u) (Some m) (Some n) None at stays = absurd at
  stays_at (Some u) (Some m) (Some n) (Some v) at stays = record {
    stands = subst (λ (c : Lowered). StandsAt sizes.version u c n.hand) (sym stays.0)
        (subst (λ (g : Hand). StandsAt sizes.version u m.control g) (sym stays.1) at.stands);
    sized = ap (λ (c : Lowered). c.sizes) stays.0 ∙ at.sized;
    kept = at.kept;
    fits = at.fits;
    begun = at.begun;
  }

  none_at : (u : Option UnderWay) (v : Option Under) → HartAt sizes u None v → (u ≡ None) × (v ≡ None)
  none_at None None at = (refl, refl)
  none_at None (Some v) at = absurd at
  none_at (Some u) v at = absurd at

  has_begun : (call : Call) (m : Option Running) → HasBegun sizes call m → (n : Running) × (m ≡ Some n)
      × BeginsAsking sizes nothing (program sizes.version call) n.control n.hand
  has_begun call None begun = absurd begun
  has_begun call (Some m) begun = (m, refl, begun.2)

is_place : (calls : List (Option Running)) (h : ℕ) (m : Running) → get_or calls h None ≡ Some m → h < length calls
is_place calls h m is = elim (cases_lt h (length calls)) [
  | inl lt ↦ lt
  | inr le ↦ absurd (let q : None ≡ Some m = sym (get_or-eq_default calls None le) ∙ is in cc)
]

module _ {D : Type 0} (contents : D → List (List ℕ)) (failures : D → ℕ) (sizes : Super) (h : ℕ) (s after : State (block_calls sizes)) (was now : ℕ → Option UnderWay)
    (b : History) (old new : HartsOf D) (k k' : KeptTree) (agree : Agrees contents failures sizes s b old k was) (sets : SetsAt h old.calls new.calls)
    (code : erase (block_calls sizes) (block_code sizes) after ≡ calls_of contents failures sizes new)
    (same : (block_moves sizes).tree after.world ≡ (block_moves sizes).tree s.world) where
  -- the event shows nothing
  pub pass_agrees : now ≡ was → StaysAt (get_or old.calls h None) (get_or new.calls h None) → JustPasses k k' → Agrees contents failures sizes after (passes b) new k' now
  pass_agrees still stays p = record {
    code = code;
    harts = λ j. subst (λ (f : ℕ → Option UnderWay). HartAt sizes (f j) (get_or new.calls j None) (hart_in k' j)) (sym still)
        (subst (λ (z : KeptTree). HartAt sizes (was j) (get_or new.calls j None) (hart_in z j)) (sym p.kept) (by j (same_or j h)));
    stage = ap stage_of p.kept ∙ agree.stage ∙ sym same;
    book = p.book b agree.book;
    room = ap (λ (z : KeptTree). z.full) p.kept ∙ agree.room;
    version = ap (λ (z : KeptTree). z.version) p.kept ∙ agree.version;
  }
    where
      by : (j : ℕ) → (j ≡ h) ⊎ (j ≢ h) → HartAt sizes (was j) (get_or new.calls j None) (hart_in k j)
      by j (inl e) =
          subst (λ (i : ℕ). HartAt sizes (was i) (get_or new.calls i None) (hart_in k i)) (sym e)
          (stays_at sizes (was h) (get_or old.calls h None) (get_or new.calls h None) (hart_in k h) (agree.harts h) stays)
      by j (inr ne) = subst (λ (z : Option Running). HartAt sizes (was j) z (hart_in k j)) (sym (other_call h j old.calls new.calls sets ne)) (agree.harts j)

  -- a call starts
  module _ (call : Call) (free : get_or old.calls h None ≡ None) (begun : HasBegun sizes call (get_or new.calls h None)) (goes : now ≡ changed was h (at_beginning sizes nothing (program sizes.version call)))
      (long : length new.calls ≡ hart_count) (few : k.calls < 2 ^ 64 - 1) (p : Starts k h call k') where
    m : (n : Running) × (get_or new.calls h None ≡ Some n) × BeginsAsking sizes nothing (program sizes.version call) n.control n.hand
    m = has_begun sizes call (get_or new.calls h None) begun

    is_hart : h < hart_count
    is_hart = subst (λ (z : ℕ). h < z) long (is_place new.calls h m.0 m.1)

    has_place : h < length k.harts
    has_place = subst (λ (z : ℕ). h < z) (sym agree.book.harts) is_hart

    first : Begins sizes nothing (program sizes.version call) m.0.control m.0.hand
    first = begins sizes nothing (program sizes.version call) m.0.control m.0.hand m.2.1

    none_kept : hart_in k h ≡ None
    none_kept = (none_at sizes (was h) (hart_in k h) (subst (λ (z : Option Running). HartAt sizes (was h) z (hart_in k h)) free (agree.harts h))).1

    v : Under
    v = p.kept.under

    fresh : IsNewCall sizes.version k.calls call p.kept.under
    fresh = subst (λ (z : Version). IsNewCall z k.calls call p.kept.under) agree.version p.kept.fresh

    together : Together sizes first.under m.0 p.kept.under
    together = record {
      stands = first.stands;
      sized = m.2.0;
      kept = inl (first.program ∙ sym fresh.4);
      fits = fresh.5;
      begun = fresh.2 ∙ sym (ap (λ r. not (none_ran r)) first.begun);
    }

    kept_here : hart_in k' h ≡ Some p.kept.under
    kept_here = ap (λ (z : KeptTree). hart_in z h) p.kept.kept ∙ same_hart k h (Some p.kept.under) h refl has_place

    at_h : HartAt sizes (now h) (get_or new.calls h None) (hart_in k' h)
    at_h =
        subst (λ (z : Option UnderWay). HartAt sizes z (get_or new.calls h None) (hart_in k' h))
        (sym (ap (λ (f : ℕ → Option UnderWay). f h) goes ∙ changed_same was h (at_beginning sizes nothing (program sizes.version call)) h refl ∙ first.is))
        (subst (λ (z : Option Running). HartAt sizes (Some first.under) z (hart_in k' h)) (sym m.1)
        (subst (λ (z : Option Under). HartAt sizes (Some first.under) (Some m.0) z) (sym kept_here) together))

    others : (j : ℕ) → j ≢ h → HartAt sizes (now j) (get_or new.calls j None) (hart_in k' j)
    others j ne =
        subst (λ (z : Option UnderWay). HartAt sizes z (get_or new.calls j None) (hart_in k' j))
        (sym (ap (λ (f : ℕ → Option UnderWay). f j) goes ∙ changed_other was h (at_beginning sizes nothing (program sizes.version call)) j ne))
        (subst (λ (z : Option Running). HartAt sizes (was j) z (hart_in k' j)) (sym (other_call h j old.calls new.calls sets ne))
        (subst (λ (z : Option Under). HartAt sizes (was j) (get_or old.calls j None) z) (sym (ap (λ (z : KeptTree). hart_in z j) p.kept.kept ∙ other_hart k h (Some p.kept.under) j ne)) (agree.harts j)))

    stage_still : stage_of k' ≡ stage_of k
    stage_still =
        ap stage_of p.kept.kept ∙ stage_put k h (Some p.kept.under) has_place
        ∙ (λ i. record { tree = (stage_of k).tree; walk = walk_same k h (walk_under k.version (Some p.kept.under)) (ap (option_map (walk_of k.version (call_in p.kept.under.whole))) fresh.1 ∙ sym (ap (walk_under k.version) none_kept)) i })

    pub start_agrees : Agrees contents failures sizes after (starts b h call) new k' now
    start_agrees = record {
      code = code;
      harts = λ j. by j (same_or j h);
      stage = stage_still ∙ agree.stage ∙ sym same;
      book = p.book b is_hart few agree.book;
      room = ap (λ (z : KeptTree). z.full) p.kept.kept ∙ agree.room;
      version = ap (λ (z : KeptTree). z.version) p.kept.kept ∙ agree.version;
    }
      where
        by : (j : ℕ) → (j ≡ h) ⊎ (j ≢ h) → HartAt sizes (now j) (get_or new.calls j None) (hart_in k' j)
        by j (inl e) = subst (λ (i : ℕ). HartAt sizes (now i) (get_or new.calls i None) (hart_in k' i)) (sym e) at_h
        by j (inr ne) = others j ne
