-- The calls on blocks have the same outcomes with either history beside them: the moves on the tree, or the
-- operations on whole inodes.
use Rattle.run_laws.proofs.Vocabulary.{◌≡◌, ℕ, Option, Some, None, List, [], ◌∷◌, refl, sym, ◌∙◌, ap, subst, Super, Reply, Call, Prog, Ret, Do, bind, ExecResult, Waits, Ran, Stops, PartOf as P, Theory, State, EventOf as Event, AllHonest, EventOutcome, makes, next, outcomes, run, ActOf, Both, both, lowered, seen_after, Outside, AnswerBelow as Answer, Op, program, machine, Carry, nothing, handlers, World, layer, block_calls, lowered_inode_calls, whole_inodes, Version}
use Rattle.inode_machine.specs.World as above
use Rattle.calls_on_blocks.specs.Layer.{exec}
use Rattle.run_laws.proofs.Bare.{Bare, HonestBare, bare, bare_honest, bare_made, bare_makes, honest_bare, makes_bare}

seen_same : (version : Version) (h : ℕ) (t : Option (ActOf (machine version))) (g : above.World)
    → seen_after (whole_inodes version) h t g ≡ seen_after (machine version) h t g
seen_same version h None g = refl
seen_same version h (Some t) g = refl

pub both_same : (version : Version) {A : Type 0} (h : ℕ) (m : A → Option (ActOf (machine version))) (g : above.World) (d : ExecResult A World)
    → both (whole_inodes version) h m g d ≡ both (machine version) h m g d
both_same version h m g Waits = refl
both_same version h m g (Ran a r) = λ i. Ran a (record { real = r; seen = seen_same version h (m a) g i })
both_same version h m g (Stops r) = refl

module _ (sizes : Super) where
  abbrev L : Theory
  L = block_calls sizes

  abbrev N : Theory
  N = lowered_inode_calls sizes

  abbrev Program : Type 0
  Program = Prog Op Answer (ActOf (machine sizes.version)) Reply

  abbrev Go : Type 0
  Go = ℕ → Outside → (op : Op) → (Answer op → Option (ActOf (machine sizes.version))) → Both World above.World → ExecResult (Answer op) (Both World above.World)

  program_same : {A : Type 0} (c : Carry) (p : P (machine sizes.version) A)
      → lowered (whole_inodes sizes.version) (layer sizes) (handlers sizes) c p ≡ lowered (machine sizes.version) (layer sizes) (handlers sizes) c p
  program_same c (Ret a) = refl
  program_same c (Do op m k) = λ i. bind (handlers sizes c op m) (λ r. program_same r.carry (k r.answer) i)

  programs_same : ◌≡◌ {A = Call → Program} N.program L.program
  programs_same = λ i call. program_same nothing (program sizes.version call) i

  go_same : ◌≡◌ {A = Go} N.M.go L.M.go
  go_same = λ i h x op m w. both_same sizes.version h m w.seen (exec h x op w.real) i

  -- an event makes the same of alike states
  makes_same : (e : Event Call Outside) (s : State L) (t : State N) → bare N t ≡ bare L s → bare_made N (makes N e t) ≡ bare_made L (makes L e s)
  makes_same e s t is =
      makes_bare N e t
      ∙ ap (bare_makes N.M.go N.start N.busy N.program e) is
      ∙ (λ i. bare_makes (go_same i) L.start L.busy (programs_same i) e (bare L s))
      ∙ sym (makes_bare L e s)

  after_same : (e : Event Call Outside) (s : State L) (t : State N) → bare N t ≡ bare L s → bare N (next N e t) ≡ bare L (next L e s)
  after_same e s t is = λ i. (makes_same e s t is i).after

  pub outcomes_same : (es : List (Event Call Outside)) (s : State (block_calls sizes)) (t : State (lowered_inode_calls sizes)) → bare (lowered_inode_calls sizes) t ≡ bare (block_calls sizes) s
      → ◌≡◌ {A = List (EventOutcome (block_calls sizes))} (outcomes (lowered_inode_calls sizes) es t) (outcomes (block_calls sizes) es s)
  outcomes_same [] s t is = refl
  outcomes_same (e ∷ es) s t is = λ i. (makes_same e s t is i).came ∷ outcomes_same es (next L e s) (next N e t) (after_same e s t is) i

  pub run_same : (es : List (Event Call Outside)) (s : State (block_calls sizes)) (t : State (lowered_inode_calls sizes)) → bare (lowered_inode_calls sizes) t ≡ bare (block_calls sizes) s
      → bare (lowered_inode_calls sizes) (run (lowered_inode_calls sizes) es t) ≡ bare (block_calls sizes) (run (block_calls sizes) es s)
  run_same [] s t is = is
  run_same (e ∷ es) s t is = run_same es (next L e s) (next N e t) (after_same e s t is)

  pub honest_same : (es : List (Event Call Outside)) (s : State (block_calls sizes)) (t : State (lowered_inode_calls sizes)) → bare (lowered_inode_calls sizes) t ≡ bare (block_calls sizes) s
      → AllHonest (block_calls sizes) es s → AllHonest (lowered_inode_calls sizes) es t
  honest_same [] s t is a = tt
  honest_same (e ∷ es) s t is a = (
    bare_honest N e t (subst (λ (b : Bare (Both World above.World) Program). HonestBare N.M.Honest e b) (sym is) (honest_bare L e s a.0)),
    honest_same es (next L e s) (next N e t) (after_same e s t is) a.1,
  )
