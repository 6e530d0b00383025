-- The calls that are shown right, together.
use Rattle.image_versions.specs.declared.version.Version.{Version}
use Rattle.inode_machine.proofs.Vocabulary.{◌≡◌, ◌⊎◌, inl, inr, Bool, true, false, [], refl, not, nat_lt, length, Some, None, if◌then◌else◌, Safe, creates, Begun, Ends, Lawful, State, fresh, run, explains, holds_of, is_nothing, open_program, limit, Idle, Inv, machine, asked_limit, covered_calls, is_covered, CallsAreExplained, StaysInOrder, WorldsStayInOrder, TooLong}
use Rattle.plain_tree.specs.declared.call.Call.TheVariants as calls
use Rattle.inode_machine.proofs.Basics.{both_paths, path_names}
use Rattle.inode_machine.proofs.Calls.{IsRight, descriptors_right, lawful_that, right}
use Rattle.inode_machine.proofs.ChdirCalls.{chdir_begins, chdir_ok}
use Rattle.inode_machine.proofs.OpenEnds.{open_begins}
use Rattle.inode_machine.proofs.OpenCalls.{open_ok}
use Rattle.inode_machine.proofs.CreateCalls.{create_ok}
use Rattle.inode_machine.proofs.Unlinks.{unlink_begins, unlink_ok}
use Rattle.inode_machine.proofs.Mkdirs.{mkdir_begins, mkdir_ok}
use Rattle.inode_machine.proofs.LinkCalls.{link_begins, link_ok}
use Rattle.inode_machine.proofs.InheritStarts.{inherit_right}

covered_right : (version : Version) → IsRight version is_covered is_covered
covered_right version h (calls.Open path flags) busy w u lt here out idle free is = right version is_covered h (calls.Open path flags) busy w u idle free is (open_begins version path flags) (λ holds i. by_flag (creates flags) refl holds i)
  where
    by_flag : (b : Bool) → creates flags ≡ b → Inv u → Idle h u → Safe (machine version) h (Begun (covered_calls version) (calls.Open path flags)) (Ends (covered_calls version) h (calls.Open path flags)) (open_program version path flags) (limit version (calls.Open path flags)) [] u
    by_flag false q holds i = open_ok version h path flags u out lt holds i q (path_names version path here)
    by_flag true q holds i = create_ok version h path flags u holds out lt i q (path_names version path here)
covered_right version h (calls.Read fd buffer) busy w u lt here out idle free is = descriptors_right version is_covered h (calls.Read fd buffer) busy w u lt (within (nat_lt asked_limit (length buffer)) here) out idle free is
  where
    within : (b : Bool) → is_nothing (if b then Some TooLong else None) ≡ true → not b ≡ true
    within true q = absurd cc
    within false q = refl
covered_right version h (calls.Write fd bytes) busy w u lt here out idle free is = descriptors_right version is_covered h (calls.Write fd bytes) busy w u lt refl out idle free is
covered_right version h (calls.Link old new) busy w u lt here out idle free is = right version is_covered h (calls.Link old new) busy w u idle free is (link_begins version old new) (λ holds i. let two = both_paths old new here in link_ok version h old new u out lt holds i (path_names version old two.0) (path_names version new two.1))
covered_right version h (calls.Unlink path) busy w u lt here out idle free is = right version is_covered h (calls.Unlink path) busy w u idle free is (unlink_begins version path) (λ holds i. unlink_ok version h path u holds out lt i (path_names version path here))
covered_right version h (calls.Mkdir path) busy w u lt here out idle free is = right version is_covered h (calls.Mkdir path) busy w u idle free is (mkdir_begins version path) (λ holds i. mkdir_ok version h path u holds out lt i (path_names version path here))
covered_right version h (calls.Chdir path) busy w u lt here out idle free is = right version is_covered h (calls.Chdir path) busy w u idle free is (chdir_begins version path) (λ holds i. chdir_ok version h path u out lt holds i (path_names version path here))
covered_right version h (calls.Dup fd) busy w u lt here out idle free is = descriptors_right version is_covered h (calls.Dup fd) busy w u lt refl out idle free is
covered_right version h (calls.Fstat fd) busy w u lt here out idle free is = descriptors_right version is_covered h (calls.Fstat fd) busy w u lt refl out idle free is
covered_right version h (calls.Close fd) busy w u lt here out idle free is = descriptors_right version is_covered h (calls.Close fd) busy w u lt refl out idle free is
covered_right version h (calls.Inherit child) busy w u lt here out idle free is = inherit_right version h child busy w u lt out idle free is

pub lawful : (version : Version) → Lawful (covered_calls version)
lawful version = lawful_that version is_covered (covered_right version)

-- Every interleaving of these calls is explained by one list of steps.
pub explained : (version : Version) → CallsAreExplained version
explained version w events inv idle honest = explains (covered_calls version) (lawful version) w events inv idle honest

-- The invariant says so.
pub in_order : (version : Version) → WorldsStayInOrder version
in_order version w events inv idle honest = by (holds_of (covered_calls version) s.stopped s.world (explained version w events inv idle honest).holds)
  where
    s : State (covered_calls version)
    s = run (covered_calls version) events (fresh (covered_calls version) w)

    by : Inv s.world ⊎ Inv s.world → StaysInOrder s.world
    by (inl i) = record { well = i.well; whole = i.whole; quiet = i.quiet }
    by (inr i) = record { well = i.well; whole = i.whole; quiet = i.quiet }
