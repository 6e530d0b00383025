-- What a hart's call has done after an event.
use Rattle.console.proofs.Vocabulary.{◌≡◌, ℕ, List, Option, set, ap, ◌∙◌, Came, Doing, Verb, doing_at, done_after}

pub doing_set : (before after : List (Option Doing)) (hart at : ℕ) (verb : Verb) (came : Came) (was next : Option Doing) → after ≡ set before at next → at ≡ hart → was ≡ doing_at at before → next ≡ done_after verb came was
    → after ≡ set before hart (done_after verb came (doing_at hart before))
doing_set before after hart at verb came was next is place had has =
    is ∙ ap (λ n. set before at n) (has ∙ ap (done_after verb came) had) ∙ ap (λ k. set before k (done_after verb came (doing_at k before))) place
