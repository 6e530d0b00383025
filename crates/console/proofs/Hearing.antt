-- What a keeper noted of an event is what the event says.
use Rattle.console.proofs.Vocabulary.{◌≡◌, ℕ, true, List, Option, Some, None, IfSome, refl, ◌∙◌, sym, subst, with_answer, Event, Came, event_of, came_of, said_of, shared_of, Makes, Answers, HasNoted, KeptTree, NotesEvent, heard_by, heard_in, Hears, hart_in, is_event}
use Rattle.hart_core.specs.Telling.{TellsEvent, hart_of}
use Rattle.hart_core.specs.Worlds.{WorldOf}
use Rattle.hart_core.specs.declared.events.Event.TheVariants as event

same_hart : (e : Event) → hart_in e ≡ hart_of e
same_hart (event.Start hart call) = refl
same_hart (event.Step hart) = refl

-- the event that was copied is this one
same_event : (copy : Option Event) (e f : Event) → IfSome copy (λ again. again ≡ e) → copy ≡ Some f → f ≡ e
same_event None e f again is = absurd (cc is)
same_event (Some g) e f again is = (let same : g ≡ f = cc is in sym same ∙ again)

module _ {D : Type 0} (contents : D → List (List ℕ)) (failures : D → ℕ) where
  pub keeps_beside : (w w' : WorldOf D) (e : Event) (hart : ℕ) (copy : Option Event) (c : Came) (old new : Option KeptTree) → hart ≡ hart_in e → IfSome copy (λ again. again ≡ e)
      → Makes contents failures w.sizes (with_answer (event_of e) (said_of c (shared_of contents failures w'.harts))) w.harts (came_of c) w'.harts
      → Answers contents failures w.sizes (with_answer (event_of e) (said_of c (shared_of contents failures w'.harts))) w.harts → TellsEvent contents failures w.sizes e w.harts c (heard_by w' (hart_of e)) w'.harts → Hears contents failures w' hart copy c old new
      → IfSome new (λ kept. (is_event c ≡ true) × NotesEvent contents failures (λ a d x b. HasNoted a e d x b) w.sizes e w.harts old c w'.harts new)
  keeps_beside w w' e hart copy c old None at again makes honest tells hears = tt
  keeps_beside w w' e hart copy c old (Some k) at again makes honest tells hears =
      let this : hears.event ≡ e = same_event copy e hears.event again hears.copied in
      let here : hart ≡ hart_of e = at ∙ same_hart e in (
        hears.is,
        record {
          makes = makes;
          answers = honest;
          heard = heard_by w' (hart_of e);
          tells = tells;
          fits = hears.fits;
          took = subst (λ (p : Event × ℕ). HasNoted old p.0 c (heard_in c (heard_by w' p.1)) (Some k)) (λ i. (this i, here i)) hears.noted;
        },
      )
