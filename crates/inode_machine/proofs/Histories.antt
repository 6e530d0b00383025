-- All calls of a run as one list of tree steps.
use Rattle.image_versions.specs.declared.version.Version.{Version}
use Rattle.inode_machine.proofs.Vocabulary.{◌≡◌, ◌⊎◌, inl, inr, ℕ, List, [], ◌∷◌, Option, Some, None, refl, sym, subst, Call, TreeData, Tree, IsWellFormed, settle_again, settled_well, Step as MoveStep, Event, Op, Answer, Mark, Outside, World, Makes, Frees, Orphans, Fills, Mends, Spoils, places, IsMoving, RunsFrom, is_covered, covered, CallsHaveOneHistory, OneHartHasOneHistory, Runs}
use Rattle.inode_machine.proofs.Covered.{lawful}
use Rattle.inode_machine.proofs.Basics.{moves_history, moves_alone, start_is}

-- an operation places nothing, or one move of its hart
pub places_one : (version : Version) (h : ℕ) (op : Op) (a : Answer op) (m : Option Mark) (w : World) → (places version h op a m w ≡ []) ⊎ ((e : MoveStep) × (places version h op a m w ≡ (h, e) ∷ []))
places_one version h op a None w = inl refl
places_one version h op a (Some (Makes v)) w = inr (_, refl)
places_one version h op a (Some (Frees n)) w = inl refl
places_one version h op a (Some (Orphans n)) w = inl refl
places_one version h op a (Some Fills) w = inl refl
places_one version h op a (Some Mends) w = inl refl
places_one version h op a (Some (Spoils s)) w = inl refl

moving : (version : Version) → IsMoving version (covered version)
moving version = record {
  lawful = lawful version;
  one = places_one version;
  begins = λ h call busy w u e. let s = start_is is_covered h call busy w u e in (s.hart, s.stage);
  rests = λ h w i. i.walk;
  settled = λ w. sym (settle_again w.all);
}

runs_from : (version : Version) (base : TreeData) (w : World) (events : List (Event Call Outside)) → Runs version base w events → RunsFrom version (covered version) base w events
runs_from version base w events r = record {
  holds = r.holds;
  idle = r.idle;
  tree = r.tree;
  well = subst (λ (z : Tree). IsWellFormed z) r.tree (settled_well w.all r.holds.well);
  honest = r.honest;
  clean = r.clean;
}

pub one_history : (version : Version) → CallsHaveOneHistory version
one_history version base w events r calm = let x = moves_history version (covered version) (moving version) base w events (runs_from version base w events r) calm in record { list = x.list; explains = x.explains; leads = x.leads }

pub one_hart : (version : Version) → OneHartHasOneHistory version
one_hart version base w h events r alone = let x = moves_alone version (covered version) (moving version) base w h events (runs_from version base w events r) alone in record { list = x.list; explains = x.explains; leads = x.leads }
