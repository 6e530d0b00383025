-- Lemmas that depend on the version, of version 1.
use Rattle.plain_tree.proofs.Vocabulary.{◌≡◌, ℕ, ◌+◌, ◌<◌, ◌==◌, true, List, [], take, drop, length, get_or, Option, Name, Tree, hart_count, settle, opens_one, pieces, Action, StepAnswer, TreeStep, Placed, AsksForWhatStays, IsInPlace, IsLeastUnused}
use Rattle.plain_tree.proofs.LeadLemmas as leads
use Rattle.plain_tree.proofs.PathLemmas as paths
use Rattle.plain_tree.proofs.SettledSteps as settled
use Rattle.plain_tree.proofs.StepLaws as steps
use Rattle.plain_tree.specs.VersionOne.{Chain, IsAppliedAt, Step, StepWith, answer_with, elements, refusal_with, with_element}
use Rattle.image_versions.specs.declared.version.Version.TheVariants.{One}

pub found_slash : (p : List ℕ) (i : ℕ) → i < length p → get_or p i 0 ≡ 47 → pieces (take i p) (drop i p) ≡ pieces [] p → elements p ≡ with_element (take i p) (elements (drop (i + 1) p))
found_slash = paths.found_slash One

pub found_end : (p : List ℕ) (i : ℕ) → i ≡ length p → pieces (take i p) (drop i p) ≡ pieces [] p → elements p ≡ with_element (take (length p) p) (elements (drop (length p + 1) p))
found_end = paths.found_end One

pub no_elements : (xs : List ℕ) → (length xs == 0) ≡ true → elements xs ≡ []
no_elements = paths.no_elements One

pub step_one : (t : Tree) (s : TreeStep) (a b : StepAnswer) (one two : Tree) → Step t s a one → Step t s b two → (a ≡ b) × (one ≡ two)
step_one = steps.step_one One

pub chain_one : (t : Tree) (list : List Placed) (one two : Tree) → Chain t list one → Chain t list two → one ≡ two
chain_one = steps.chain_one One

pub applied_step : (t : Tree) (s : TreeStep) (id : ℕ) (a : StepAnswer) (t' : Tree) → IsInPlace t s.hart s.action → (opens_one t s.hart s.action ≡ true → IsLeastUnused t id) → IsAppliedAt t s id a t' → Step t s a t'
applied_step = steps.applied_step One

pub step_placed : (t : Tree) (s : TreeStep) (a : StepAnswer) (t' : Tree) → Step t s a t' → IsInPlace t s.hart s.action
step_placed = leads.step_placed One

pub settled_refusal : (t : Tree) (h : ℕ) (s : Action) (res : Option ℕ) (par : Option (ℕ × Name)) → h < hart_count → AsksForWhatStays t res par → refusal_with (settle t) h s res par ≡ refusal_with t h s res par
settled_refusal = settled.settled_refusal One

pub settled_answer : (t : Tree) (h : ℕ) (s : Action) (res : Option ℕ) (par : Option (ℕ × Name)) (id : ℕ) → h < hart_count → AsksForWhatStays t res par → answer_with (settle t) h s res par id ≡ answer_with t h s res par id
settled_answer = settled.settled_answer One

pub settled_step : (t : Tree) (h : ℕ) (s : Action) (res : Option ℕ) (par : Option (ℕ × Name)) (a : StepAnswer) (new id : ℕ) (t' : Tree) → AsksForWhatStays t res par → StepWith t h s res par a new id t' → StepWith (settle t) h s res par a new id (settle t')
settled_step = settled.settled_step One
