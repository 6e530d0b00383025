-- What a step places, by when its operation acts.
use Rattle.inode_machine.specs.Kept as kept
use Rattle.run_laws.proofs.Vocabulary.{◌≡◌, ℕ, Bool, true, false, Option, Some, None, is_some, List, [], refl, sym, ◌∙◌, ap, subst, Super, Ret, Do, State, Made, Step, or_else, Handover, Outside, Carry, MoveStep, places, block_calls, block_moves, ActingTime, ActsThen, EndsAsActed, InFirst, InLast, InOne, IsMadeBy, RunsAStep, SeesTruly, UnderWay, is_at_end, none_ran, placed_by, time_of}
use Rattle.inode_machine.specs.World as above
use Rattle.inodes_on_blocks.specs.Handlers.{P}
use Rattle.run_laws.specs.UnderWay.{PlacesAt, StepsPlaceInTime}

module _ (sizes : Super) (h : ℕ) (x : Outside) (s : State (block_calls sizes)) (made : Made (block_calls sizes)) (was now : ℕ → Option UnderWay) (r : RunsAStep sizes h x s made was now) where
  abbrev u : UnderWay
  u = r.under

  abbrev Placed : List (ℕ × MoveStep) → Type 0
  Placed ps = kept.placed sizes.version (block_moves sizes) (Step h x) s ≡ ps

  -- it acts, or doesn't
  acts : (o : Option (above.Answer u.op)) → r.acts ≡ o → is_some o ≡ true → IsMadeBy sizes.version h u o s.world.seen made.after.world.seen → (a : above.Answer u.op) × Placed (places sizes.version h u.op a (u.mark a) s.world.seen) × SeesTruly sizes.version u.op a s.world.seen × (or_else r.acts u.acted ≡ Some a)
  acts None e t does = absurd (let q : false ≡ true = t in cc)
  acts (Some a) e t does = (a, r.places ∙ ap (λ (o : Option (above.Answer u.op)). placed_by sizes.version h u o s.world.seen) e, does.1, ap (λ (o : Option (above.Answer u.op)). or_else o u.acted) e)

  rests : (o : Option (above.Answer u.op)) → r.acts ≡ o → is_some o ≡ false → Placed [] × (or_else r.acts u.acted ≡ u.acted)
  rests None e t =
      (r.places ∙ ap (λ (o : Option (above.Answer u.op)). placed_by sizes.version h u o s.world.seen) e, ap (λ (o : Option (above.Answer u.op)). or_else o u.acted) e)
  rests (Some a) e t = absurd (let q : true ≡ false = t in cc)

  same_some : (a b : above.Answer u.op) → ◌≡◌ {A = Option (above.Answer u.op)} (Some a) (Some b) → a ≡ b
  same_some a b e = cc

  by_time : (time : ActingTime) (first : Bool) (left : P (Handover (above.Answer u.op) Carry)) → ActsThen time first (is_at_end left) (is_some r.acts) → EndsAsActed u (or_else r.acts u.acted) left → PlacesAt sizes h x s made was now time first r left
  by_time InFirst true left t e = acts r.acts refl t r.does
  by_time InFirst false left t e = rests r.acts refl t
  by_time InLast first (Ret z) t e =
      let d = acts r.acts refl t r.does in
      subst (λ (a : above.Answer u.op). Placed (places sizes.version h u.op a (u.mark a) s.world.seen)) (same_some d.0 z.answer (sym d.3 ∙ e)) d.1
  by_time InLast first (Do op m k) t e = (rests r.acts refl t).0
  by_time InOne first left t e = tt

  pub in_time : PlacesAt sizes h x s made was now (time_of u.op) (none_ran u.ran) r (r.rest r.answer)
  in_time = by_time (time_of u.op) (none_ran u.ran) (r.rest r.answer) r.then_ r.ends

pub steps_place_in_time : StepsPlaceInTime
steps_place_in_time sizes h x s made was now r = in_time sizes h x s made was now r
