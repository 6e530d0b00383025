use Rattle.buffer_cache.proofs.Lemmas.{ℕ, List, Option, Some, None, IsSome, refl, IfSome, has_block, with_content, IsLinked, held_at, keeps_filled, chained_with}
use Rattle.buffer_cache.proofs.buffers.Buffers.keep.Goals as goal

some_then : (o : Option (List ℕ)) {P : List ℕ → Type 0} (Q : Type 0) → IsSome o → IfSome o P → ((x : List ℕ) → P x → Q) → Q
some_then None Q some p k = absurd (cc some)
some_then (Some x) Q some p k = k x p

if_some : (o : Option (List ℕ)) {P Q : List ℕ → Type 0} → IfSome o P → ((x : List ℕ) → P x → Q x) → IfSome o Q
if_some None p k = p
if_some (Some x) p k = k x p

pub keep_in-requires-clause-place : goal.keep_in-requires-clause-place
keep_in-requires-clause-place c = held_at c.self.inside.seats.items c.self.inside.order c.args.self.now c.args.guard.now c.self.invariant.kept.ordered c.self.view_is c.requires.once c.requires.held

pub invariant_of-self : goal.invariant_of-self
invariant_of-self c =
    let in_ = c.self.inside in
    some_then c.args.guard.now.value.content (IsLinked in_.slots c.keep_in.new.seats.items in_.order in_.chains) c.requires.valid c.keep_in.ensures
    (λ bytes to. record {
      kept = (keeps_filled in_.slots in_.seats.items in_.order c.args.self.now c.keep_in.new.seats.items c.args.guard.now bytes c.self.invariant.kept c.self.view_is c.requires.once c.requires.held to).all;
      chained = chained_with in_.seats.items c.keep_in.new.seats.items in_.chains (has_block c.args.guard.now.value.block) (with_content bytes) (λ _. refl) to c.self.invariant.chained;
    })

pub returns : goal.returns
returns c =
    let in_ = c.self.inside in
    if_some c.args.guard.now.value.content c.keep_in.ensures
    (λ bytes to. (keeps_filled in_.slots in_.seats.items in_.order c.args.self.now c.keep_in.new.seats.items c.args.guard.now bytes c.self.invariant.kept c.self.view_is c.requires.once c.requires.held to).view)
