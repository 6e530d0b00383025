-- The swap on blocks: its history, its run above, and its code.
use Rattle.atomic_programs.proofs.Vocabulary.{◌≤◌, ℕ, Bool, true, false, None, Some, List, [], ◌∷◌, length, refl, arith, nat_eq, if◌then◌else◌, PlacesOne, Lawful, State, Event, hart_of, IsHonest, AllHonest, next, run, fresh, Sound, IsExplained, Leads, operations_of, IsCode, whole, Op, Outside, Shows, Base, blocks, handler, theory, begins_at_once, core, Swap, HasNothing, labels, calls, swaps_above, code_above, swaps_noted}
use Rattle.atomic_programs.proofs.Basics.{explains, joined_places_one, is_code_below}
use Rattle.atomic_programs.proofs.Leading.{leads}
use Rattle.atomic_programs.specs.Swap.{Step, swaps, code, rest}
use Rattle.atomic_programs.proofs.Swap.{lawful, keeps}
use Rattle.atomic_programs.proofs.OfWhole.{calls_lawful, calls_refined, calls_within}

rest_shows : Shows rest.real rest.seen
rest_shows = record { locks = λ i. refl; dinos = λ i. refl; txns = λ h. refl; loaded = λ i d e q. absurd cc; parts = λ i e. refl }

rest_base : (h : ℕ) → Base h rest.real rest.seen blocks.none
rest_base h = record { free = λ b e. cc; tied = λ i e. absurd cc; in_hand = λ i e. absurd cc }

rest_idle : (h : ℕ) → HasNothing h false rest.seen
rest_idle h = record { none = λ i e. cc; txn = refl }

pub swaps_lawful : Lawful swaps
swaps_lawful = calls_lawful labels calls lawful keeps

pub swaps_explained : (events : List (Event Swap Outside)) → AllHonest swaps events (fresh swaps rest) → IsExplained swaps rest.seen.dino (run swaps events (fresh swaps rest))
swaps_explained events honest = explains swaps swaps_lawful rest events (rest_shows, tt) (λ h. (rest_base h, rest_idle h)) honest

-- a swap places its own step alone
places_one : PlacesOne (whole labels)
places_one h op a None w inv = omega arith
places_one h op a (Some e) w inv = at (nat_eq h h)
  where
    at : (b : Bool) → length (if b then e ∷ [] else []) ≤ 1
    at true = omega arith
    at false = omega arith

pub swaps_lead : (s : State swaps) (e : Event Swap Outside) → Sound swaps s → IsHonest swaps e s → Leads swaps (hart_of e) s (next swaps e s)
swaps_lead = leads swaps swaps_lawful (joined_places_one (whole labels) blocks places_one)

pub swaps_refined : (events : List (Event Swap Outside)) → AllHonest swaps_above events (fresh swaps_above rest) → IsExplained swaps_above rest.seen (run swaps_above events (fresh swaps_above rest))
swaps_refined events honest = calls_refined labels calls lawful keeps rest rest_shows tt rest_base rest_idle events honest

pub swaps_within : (events : List (Event Swap Outside)) → AllHonest swaps_noted events (fresh swaps_noted rest) → IsExplained swaps_noted rest.seen (run swaps_noted events (fresh swaps_noted rest))
swaps_within events honest = calls_within labels calls lawful keeps rest rest_shows tt rest_base rest_idle events honest

-- what the code makes is what both histories are of
pub swaps_are_code : IsCode swaps code
swaps_are_code = is_code_below (theory labels calls) blocks (handler Step) (begins_at_once labels calls) Op (λ op a. op)

pub above_is_code : IsCode swaps_above code_above
above_is_code = is_code_below (operations_of (theory labels calls) (core labels)) blocks (handler Step) (begins_at_once labels calls) Op (λ op a. op)
