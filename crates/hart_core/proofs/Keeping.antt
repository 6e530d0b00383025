-- What always holds of a world, by the invariant of its calls.
use Rattle.hart_core.proofs.Vocabulary.{◌≡◌, ℕ, Bool, true, false, Option, Some, None, List, refl, sym, ◌∙◌, ap, subst, get_or, Super, Theory, Run, State, IsExplained, Holds, program_at, Code, Plain, SoundPlain, prog_of, sound_explained, running_of, is_joined, quiet_worlds_are_images, block_calls, block_code, lawful, HartsOf, shared_of, HasNothing, NoneJoined, ShowsImage, IdleHartsHaveNothing, QuietBlocksAreAnImage, IsWorld, calls_of}
use Rattle.fs_machine.specs.Steps as steps
use Rattle.inodes_on_blocks.specs.Shown.{MembersShow}
use Rattle.hart_core.proofs.Lasting.{world_sound}

pub none_of : (L : Theory) (C : Code L) (r : Option (Run L)) → prog_of L C r ≡ None → r ≡ None
none_of L C None e = refl
none_of L C (Some r) e = absurd cc

module _ {D : Type 0} (contents : D → List (List ℕ)) (failures : D → ℕ) (sizes : Super) (w : HartsOf D) (is : IsWorld contents failures sizes w) where
  abbrev pub L : Theory
  L = block_calls sizes

  abbrev pub C : Code L
  C = block_code sizes

  abbrev pub sound : SoundPlain L C (calls_of contents failures sizes w)
  sound = world_sound contents failures sizes w is

  abbrev pub state : State L
  state = sound.state

  pub told : IsExplained L (L.M.tree sound.sound.first) state
  told = sound_explained L (lawful sizes) state sound.sound

  pub same : ◌≡◌ {A = steps.State} state.world.real.blocks.state (shared_of contents failures w)
  same = ap (λ (p : Plain L C). p.shared.state) sound.is

  no_call : (h : ℕ) → get_or w.calls h None ≡ None → state.running h ≡ None
  no_call h e = none_of L C (state.running h) (ap (λ (p : Plain L C). p.running h) sound.is ∙ ap (program_at running_of) e)

  holds : w.stopped ≡ false → L.M.Inv state.world
  holds on = subst (λ (b : Bool). Holds L b state.world) (ap (λ (p : Plain L C). p.stopped) sound.is ∙ on) told.holds

  -- who is in a transaction, also in a world that has stopped
  members : MembersShow state.world.real.blocks.state.log.members state.world.seen.desks
  members = by state.stopped told.holds
    where
      by : (b : Bool) → Holds L b state.world → MembersShow state.world.real.blocks.state.log.members state.world.seen.desks
      by true halted = halted.0.0.members
      by false inv = inv.0.0.members

  pub idle_harts_have_nothing : IdleHartsHaveNothing contents failures w
  idle_harts_have_nothing h e =
      let idle = told.idle h (no_call h e) in (
        subst (HasNothing h) same (record { buffers = idle.0.0.free; locks = λ n held. (idle.0.0.inodes n held).loaded_is }),
        λ below. subst (λ (s : steps.State). is_joined s.log.members h ≡ false) same (sym (members h below) ∙ idle.1.joined),
      )

  pub quiet_blocks_are_an_image : QuietBlocksAreAnImage contents failures w
  quiet_blocks_are_an_image on quiet =
      let inv = holds on in
      let calm : NoneJoined state.world.real.blocks.state.log = subst (λ (s : steps.State). NoneJoined s.log) (sym same) quiet in
      let image = quiet_worlds_are_images state.world.real.blocks state.world.seen inv.0.0 inv.1 (λ h below. inv.0.0.members h below ∙ calm h below) in
      subst (λ (s : steps.State). ShowsImage s.log) same (record { well = image.0.well_formed; recovered = image.1 })
