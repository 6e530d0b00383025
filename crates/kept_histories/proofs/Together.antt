-- A hart's call: the operation under way, the machine in its place, and the call that is kept beside it. How they are after a step.
use Rattle.std.specs.Prelude.{◌≡◌, ◌≢◌, ℕ, Bool, true, false, not, Option, Some, None}
use Rattle.std.specs.Option.{option_map}
use Rattle.calls_on_blocks.proofs.Vocabulary.{refl, sym, ◌∙◌, ap, subst}
use Rattle.atomic_programs.proofs.Explains.{Some-inj}
use Rattle.atomic_programs.specs.Joined.{Handover}
use Rattle.atomic_programs.specs.Prog.{Do}
use Rattle.fs_layout.specs.declared.superblock.Super.{Super}
use Rattle.fs_machine.specs.declared.hand.Hand.{Hand}
use Rattle.inode_machine.specs.World as above
use Rattle.inode_parts.specs.Leaving.{heard_if}
use Rattle.inode_parts.specs.declared.lowered.Lowered.{Lowered}
use Rattle.inodes_on_blocks.specs.Handlers.{P}
use Rattle.inodes_on_blocks.specs.Lowering.{Carry}
use Rattle.path_walk.specs.declared.asks.Heard.{Heard}
use Rattle.run_laws.specs.UnderWay.{UnderWay, none_ran}
use Rattle.syscalls.specs.Machines.{Running}
use Rattle.tree_histories.proofs.Harts.{is_hart, other_hart, same_hart, stage_put, walk_same}
use Rattle.tree_histories.specs.Keeping.{HasHeard, HeardBy, HearsSo, KeptTree, ReadsTooMuch, Under, hart_in, stage_of, walk_under, walking, with_hart}
use Rattle.tree_histories.specs.Walks.{walk_of}
use Rattle.whole_calls.specs.Wholes.{WholeFits}
use Rattle.image_versions.specs.declared.version.Version.{Version}
use Rattle.kept_histories.proofs.KeptCalls.{HeardOn, KeptAs, hears_on, same_asked}
use Rattle.kept_histories.proofs.ReadRooms.{RoomOf, none_too_much}
use Rattle.kept_histories.proofs.Standing.{StandsAt}
use Rattle.kept_histories.proofs.StepMarks.{HeardAt}
use Rattle.kept_histories.proofs.Stepped.{BeginsNext, Comes, GoesOn}
use Rattle.kept_histories.proofs.Basics.{none_some}

module _ (sizes : Super) where
  pub record Together (u : UnderWay) (m : Running) (v : Under) : Type 0 where
    pub stands : StandsAt sizes.version u m.control m.hand
    pub sized : m.control.sizes ≡ sizes
    pub kept : KeptAs sizes.version (Do u.op u.mark u.rest) v
    pub fits : WholeFits sizes.version v.listed v.whole
    pub begun : v.has_begun ≡ not (none_ran u.ran)

  -- of a hart: all three, or none of them
  abbrev pub HartAt : Option UnderWay → Option Running → Option Under → Type 0
  HartAt None None None = Unit {0}
  HartAt None None (Some v) = ⊥
  HartAt None (Some m) v = ⊥
  HartAt (Some u) None v = ⊥
  HartAt (Some u) (Some m) None = ⊥
  HartAt (Some u) (Some m) (Some v) = Together u m v

  -- what is heard in a step is what the operation is answered
  pub heard_so : (u : UnderWay) (left : P (Handover (above.Answer u.op) Carry)) (n : Option UnderWay) (k : Lowered) (g : Hand) (out : Option (Unit {0})) (b : Bool)
      → Comes sizes u left n k g out b → HeardAt u left (heard_if b k.heard)
  heard_so u left n k g None false c = c.goes_on
  heard_so u left n k g None true c = (c.end, c.is, c.text, c.answer)
  heard_so u left n k g (Some e) false c = absurd c
  heard_so u left n k g (Some e) true c = (c.end, c.is, c.text, c.answer)

-- ---- in the kept tree

pub record StillCalled (v : Under) (o : Option Under) : Type 0 where
  pub call : Under
  pub is : o ≡ Some call
  pub same : walking None call ≡ walking None v

pub still_called : (v : Under) (o p : Option Under) → p ≡ Some v → option_map (walking None) o ≡ option_map (walking None) p → StillCalled v o
still_called v None p is same = none_some (walking None v) (same ∙ ap (option_map (walking None)) is)
still_called v (Some w) p is same = record { call = w; is = refl; same = Some-inj (walking None w) (walking None v) (same ∙ ap (option_map (walking None)) is) }

-- the stage is the same, if the hart's walk is
pub stage_same : (k : KeptTree) (h : ℕ) (w : Under) (o : Option Under) → hart_in k h ≡ Some w → walk_under k.version o ≡ walk_under k.version (Some w) → stage_of (with_hart k h o) ≡ stage_of k
stage_same k h w o is walk =
    stage_put k h o (is_hart k h w is)
    ∙ (λ i. record { tree = (stage_of k).tree; walk = walk_same k h (walk_under k.version o) (walk ∙ sym (ap (walk_under k.version) is)) i })

-- ---- after a step

module _ (sizes : Super) (u : UnderWay) (rest : P (Handover (above.Answer u.op) Carry)) (n : Option UnderWay) (left : Running) (h : ℕ)
    (between amid : KeptTree) (w : Under) (is : hart_in between h ≡ Some w) (kept : KeptAs sizes.version (Do u.op u.mark u.rest) w)
    (fits : WholeFits sizes.version w.listed w.whole) (x : Option Heard) (hears : HasHeard between h x amid) (sized : left.control.sizes ≡ sizes)
    (version : between.version ≡ sizes.version) where
  -- the call goes on, and nothing else has changed
  pub record CallGoes : Type 0 where
    pub then_ : Under
    pub found : hart_in amid h ≡ Some then_
    pub at : HartAt sizes n (Some left) (Some then_)
    pub stage : stage_of amid ≡ stage_of between
    pub others : (j : ℕ) → j ≢ h → hart_in amid j ≡ hart_in between j

  put_call : (t : Under) → hears.under ≡ Some t → walk_under between.version (Some t) ≡ walk_under between.version (Some w) → HartAt sizes n (Some left) (Some t)
      → CallGoes
  put_call t e walk at = record {
    then_ = t;
    found = ap (λ (z : KeptTree). hart_in z h) hears.kept ∙ ap (λ (o : Option Under). hart_in (with_hart between h o) h) e
        ∙ same_hart between h (Some t) h refl (is_hart between h w is);
    at = at;
    stage = ap stage_of hears.kept ∙ ap (λ (o : Option Under). stage_of (with_hart between h o)) e ∙ stage_same between h w (Some t) is walk;
    others = λ j ne. ap (λ (z : KeptTree). hart_in z j) hears.kept ∙ other_hart between h hears.under j ne;
  }

  heard_here : HeardBy sizes.version (Some w) x hears.under
  heard_here =
      subst (λ (z : Option Under). HeardBy sizes.version z x hears.under) is (subst (λ (z : Version). HeardBy z (hart_in between h) x hears.under) version hears.hears)

  -- it has room for what it heard
  has_room : RoomOf u.op left.control.heard → ReadsTooMuch left.control.heard w.whole → ⊥
  has_room = none_too_much sizes.version w.listed w.whole u.op left.control.heard (same_asked sizes.version (Do u.op u.mark u.rest) w kept u.op refl)

  begins_next : BeginsNext sizes u rest n left.control left.hand → HearsSo sizes.version w left.control.heard hears.under → CallGoes
  begins_next c so =
      let b : UnderWay = c.begins.under in
      let on : HeardOn sizes.version u w left.control.heard c.text c.end.answer c.answer kept b.op b.mark b.rest c.begins.program hears.under =
      hears_on sizes.version u w left.control.heard c.text c.end.answer c.answer kept b.op b.mark b.rest c.begins.program hears.under so (has_room c.room) in
      put_call on.then_ on.found (λ i. option_map (walk_of between.version (on.goes.same.3 i)) (on.goes.same.1 i))
      (subst (λ (z : Option UnderWay). HartAt sizes z (Some left) (Some on.then_)) (sym c.now) (record {
        stands = c.begins.stands;
        sized = sized;
        kept = on.follows;
        fits = on.goes.fits;
        begun = on.goes.same.2 ∙ sym (ap (λ r. not (none_ran r)) c.begins.begun);
      }))

  stays_in : GoesOn sizes u rest n left.control left.hand → hears.under ≡ Some (record w { has_begun = true }) → CallGoes
  stays_in c e =
      put_call (record w { has_begun = true }) e refl
      (subst (λ (z : Option UnderWay). HartAt sizes z (Some left) (Some (record w { has_begun = true }))) (sym c.is) (record {
        stands = c.stands;
        sized = sized;
        kept = kept;
        fits = fits;
        begun = sym (ap not c.has_run);
      }))

  pub call_goes : (b : Bool) → Comes sizes u rest n left.control left.hand None b → x ≡ heard_if b left.control.heard → CallGoes
  call_goes true c e = begins_next c (subst (λ (z : Option Heard). HeardBy sizes.version (Some w) z hears.under) e heard_here)
  call_goes false c e = stays_in c (subst (λ (z : Option Heard). HeardBy sizes.version (Some w) z hears.under) e heard_here)
