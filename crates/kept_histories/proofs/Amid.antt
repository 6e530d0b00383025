-- The machines of harts that are in order are amid their parts.
use Rattle.std.specs.Prelude.{◌≡◌, ℕ, List, false, Option, Some, None, get_or}
use Rattle.calls_on_blocks.proofs.Vocabulary.{refl, subst}
use Rattle.atomic_programs.specs.Prog.{Ret, Do}
use Rattle.hart_core.specs.Harts.{AreHarts, HartFits, HartsOf, shared_of}
use Rattle.fs_machine.proofs.HasOnes.{HasOne}
use Rattle.inode_parts.proofs.HasOnes.{part_has}
use Rattle.inode_parts.specs.Parts.{Part}
use Rattle.inode_parts.specs.Telling.{part_of}
use Rattle.syscalls.specs.Machines.{Running}
use Rattle.whole_calls.specs.Wholes.{text_in}
use Rattle.kept_histories.proofs.Controls.{at_end}

-- each machine's part asks for an operation
abbrev pub AreAmid : {D : Type 0} → HartsOf D → Type 0
AreAmid w = (h : ℕ) (m : Running) → get_or w.calls h None ≡ Some m → at_end (part_of m.control m.hand) ≡ false

one_left : (q : Part) → HasOne q → at_end q ≡ false
one_left (Ret r) one = absurd one
one_left (Do op m k) one = refl

pub are_amid : {D : Type 0} (contents : D → List (List ℕ)) (failures : D → ℕ) (w : HartsOf D) → AreHarts (shared_of contents failures w) w.calls → AreAmid w
are_amid contents failures w harts h m is =
    let fits = subst (λ (z : Option Running). HartFits (shared_of contents failures w) h z) is (harts.fits h) in
    one_left (part_of m.control m.hand) (part_has (text_in m.control.call) m.control.notes m.control.part m.hand fits.ready.ready)
