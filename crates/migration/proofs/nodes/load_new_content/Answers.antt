use Rattle.std.proofs.Common.{◌∙◌, sym, subst, List, Option}
use Rattle.std.specs.Prelude.{All}
use Rattle.image_tree.proofs.TreeOfLemmas.{numbers_loaded}
use Rattle.migration.specs.Vocabulary.{Dirent}
use Rattle.migration.specs.Parts.{CanSpell}
use Rattle.migration.proofs.Spelled.{spells_all}
use Rattle.migration.proofs.nodes.load_new_content.Goals as goal

pub load_content-requires-clause-numbers : goal.load_content-requires-clause-numbers
load_content-requires-clause-numbers g c =
    numbers_loaded (g.D.Device.contents c.args.old.now) (g.D.Device.contents c.numbers_at.new.device) c.args.i c.args.inode.now c.as_slice.result.now
    c.in_ok-numbers.numbers.items c.requires.inode c.requires.used c.as_slice.ensures.value c.in_ok-numbers.ensures.numbers c.in_ok-numbers.ensures.device.contents

pub load_slots-requires-clause-numbers : goal.load_slots-requires-clause-numbers
load_slots-requires-clause-numbers g c =
    numbers_loaded (g.D.Device.contents c.args.old.now) (g.D.Device.contents c.numbers_at.new.device) c.args.i c.args.inode.now c.as_slice-2.result.now
    c.in_ok-numbers.numbers.items c.requires.inode c.requires.used c.as_slice-2.ensures.value c.in_ok-numbers.ensures.numbers c.in_ok-numbers.ensures.device.contents

pub spell_slots-requires : goal.spell_slots-requires
spell_slots-requires g c =
    subst (λ (slots : List (Option Dirent)). All (CanSpell c.args.version) slots) (sym (c.as_slice-3.ensures.value ∙ c.in_ok-slots.ensures.slots))
    (spells_all c.args.layout.now.version c.args.version (g.D.Device.contents c.numbers_at.new.device) c.args.inode.now c.requires.later)
