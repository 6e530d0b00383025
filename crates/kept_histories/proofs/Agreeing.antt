-- Before and after each event: the theory's state, code's harts and the kept tree agree.
use Rattle.std.specs.Prelude.{◌≡◌, ◌≢◌, ◌⊎◌, ◌<◌, ℕ, false, List, Option, Some, None, get_or}
use Rattle.std.specs.Option.{option_map}
use Rattle.std.proofs.Common.{get_or-set_other, length-set}
use Rattle.calls_on_blocks.proofs.Vocabulary.{refl, sym, ◌∙◌, ap, subst, inl, inr}
use Rattle.atomic_programs.specs.Calls.{State}
use Rattle.atomic_programs.proofs.Maps.{same_or}
use Rattle.atomic_programs.specs.Plain.{erase}
use Rattle.atomic_programs.specs.Prog.{Do}
use Rattle.calls_on_blocks.specs.History.{block_moves}
use Rattle.calls_on_blocks.specs.Theory.{block_calls, block_code}
use Rattle.fs_layout.specs.declared.superblock.Super.{Super}
use Rattle.hart_core.specs.Harts.{HartsOf}
use Rattle.hart_core.specs.Telling.{SetsAt}
use Rattle.hart_core.specs.Worlds.{calls_of}
use Rattle.path_walk.specs.declared.asks.Heard.{Heard}
use Rattle.run_laws.specs.UnderWay.{UnderWay}
use Rattle.syscalls.specs.Machines.{Running}
use Rattle.tree_histories.proofs.Harts.{is_hart, other_hart, same_hart}
use Rattle.tree_histories.specs.Books.{IsBook, StandsAs}
use Rattle.tree_histories.specs.Keeping.{HeardBy, KeptTree, Under, hart_in, stage_of, walking, with_hart}
use Rattle.tree_laws.specs.History.{HartStanding, History}
use Rattle.tree_laws.specs.History.HartStanding.{Busy, Free}
use Rattle.tree_laws.specs.Vocabulary.{hart_count}
use Rattle.whole_calls.specs.Wholes.{WholeFits}
use Rattle.kept_histories.proofs.KeptCalls.{KeptAs}
use Rattle.kept_histories.proofs.Together.{HartAt, Together}
use Rattle.image_versions.specs.declared.version.Version.{Version}

module _ {D : Type 0} (contents : D → List (List ℕ)) (failures : D → ℕ) (sizes : Super) where
  -- room: no step has found none
  pub record Agrees (s : State (block_calls sizes)) (b : History) (w : HartsOf D) (k : KeptTree) (under : ℕ → Option UnderWay) : Type 0 where
    pub code : erase (block_calls sizes) (block_code sizes) s ≡ calls_of contents failures sizes w
    pub harts : (h : ℕ) → HartAt sizes (under h) (get_or w.calls h None) (hart_in k h)
    pub stage : stage_of k ≡ (block_moves sizes).tree s.world
    pub book : IsBook k b
    pub room : k.full ≡ false
    pub version : k.version ≡ sizes.version

-- ---- harts

module _ (sizes : Super) where
  -- what a hart that has a call has
  pub record Has (u : UnderWay) (m : Option Running) (v : Option Under) : Type 0 where
    pub machine : Running
    pub is : m ≡ Some machine
    pub call : Under
    pub found : v ≡ Some call
    pub together : Together sizes u machine call

  pub has : (u : UnderWay) (m : Option Running) (v : Option Under) → HartAt sizes (Some u) m v → Has u m v
  has u None v at = absurd at
  has u (Some m) None at = absurd at
  has u (Some m) (Some v) at = record { machine = m; is = refl; call = v; found = refl; together = at }

  -- it is so wherever its call walks
  pub hart_still : (u : Option UnderWay) (m : Option Running) (o p : Option Under) → HartAt sizes u m o → option_map (walking None) p ≡ option_map (walking None) o → HartAt sizes u m p
  hart_still None None None None at e = tt
  hart_still None None None (Some v) at e = absurd cc
  hart_still None None (Some v) p at e = absurd at
  hart_still None (Some m) o p at e = absurd at
  hart_still (Some u) None o p at e = absurd at
  hart_still (Some u) (Some m) None p at e = absurd at
  hart_still (Some u) (Some m) (Some v) None at e = absurd cc
  hart_still (Some u) (Some m) (Some v) (Some w) at e =
      let same : walking None w ≡ walking None v = ap (λ (z : Option Under). value v z) e in
      record {
        stands = at.stands;
        sized = at.sized;
        kept = subst (λ (z : Under). KeptAs sizes.version (Do u.op u.mark u.rest) z) (sym same) at.kept;
        fits = subst (λ (z : Under). WholeFits sizes.version z.listed z.whole) (sym same) at.fits;
        begun = ap (λ (z : Under). z.has_begun) same ∙ at.begun;
      }
    where
      value : Under → Option Under → Under
      value v None = v
      value v (Some w) = w

pub other_call : (h j : ℕ) (old new : List (Option Running)) → SetsAt h old new → j ≢ h → get_or new j None ≡ get_or old j None
other_call h j old new sets ne = ap (λ (z : List (Option Running)). get_or z j None) sets ∙ get_or-set_other old h j (get_or new h None) None ne

-- ---- the book

-- it knows of a hart's call its place in the trace
pub stands_still : (version : Version) (w : Under) (x : Option Heard) (o : Option Under) → HeardBy version (Some w) x o → (s : HartStanding) → StandsAs (Some w) s
    → StandsAs o s
stands_still version w None o heard Free st = absurd st
stands_still version w None o heard (Busy id c told) st = subst (λ (z : Option Under). StandsAs z (Busy id c told)) (sym heard) st
stands_still version w (Some x) None heard s st = tt
stands_still version w (Some x) (Some v) heard Free st = absurd st
stands_still version w (Some x) (Some v) heard (Busy id c told) st = heard.same.0 ∙ st

pub book_put : (k : KeptTree) (b : History) (h : ℕ) (w : Under) (o : Option Under) → hart_in k h ≡ Some w → ((s : HartStanding) → StandsAs (Some w) s → StandsAs o s)
    → IsBook k b → IsBook (with_hart k h o) b
book_put k b h w o is still book = record {
  harts = length-set k.harts h o ∙ book.harts;
  list = book.list;
  events = book.events;
  calls = book.calls;
  stands = λ j lt. by j lt (same_or j h);
}
  where
    by : (j : ℕ) → j < hart_count → (j ≡ h) ⊎ (j ≢ h) → StandsAs (hart_in (with_hart k h o) j) (b.calls j)
    by j lt (inl e) =
        subst (λ (z : Option Under). StandsAs z (b.calls j)) (sym (same_hart k h o j e (is_hart k h w is)))
        (still (b.calls j) (subst (λ (z : Option Under). StandsAs z (b.calls j)) (ap (hart_in k) e ∙ is) (book.stands j lt)))
    by j lt (inr ne) = subst (λ (z : Option Under). StandsAs z (b.calls j)) (sym (other_hart k h o j ne)) (book.stands j lt)
