use Rattle.image_tree.proofs.Lemmas.{◌∙◌, sym, SFits, w16, rules, to_z-of_z, numbers_loaded, directory_kind, file_kind, device_kind}
use Rattle.image_tree.proofs.trees.load_kind.Goals as goal

pub load_slots-requires-clause-numbers : goal.load_slots-requires-clause-numbers
load_slots-requires-clause-numbers g c =
    numbers_loaded (g.D.Device.contents c.args.device.now) (g.D.Device.contents c.numbers_at.new.device) c.args.i c.args.inode.now c.as_slice.result.now c.in_ok-numbers.numbers.items
    c.requires.inode c.requires.used c.as_slice.ensures.value c.in_ok-numbers.ensures.numbers c.in_ok-numbers.ensures.device.contents

pub returns-then-is_directory-clause-kind : goal.returns-then-is_directory-clause-kind
returns-then-is_directory-clause-kind g c =
    directory_kind c.args.layout.now.version (g.D.Device.contents c.args.device.now) (g.D.Device.contents c.numbers_at.new.device) c.args.inode.now c.in_ok-slots.slots c.as_slice-then-is_directory.result.now
    c.in_ok-entries.entries.items (sym c.is_directory.ensures ∙ c.if-is_directory.true) c.in_ok-slots.ensures c.as_slice-then-is_directory.ensures.value
    c.in_ok-entries.ensures.slots c.in_ok-numbers.ensures.device.contents

pub load_content-requires-clause-numbers : goal.load_content-requires-clause-numbers
load_content-requires-clause-numbers g c =
    numbers_loaded (g.D.Device.contents c.args.device.now) (g.D.Device.contents c.numbers_at.new.device) c.args.i c.args.inode.now c.as_slice-then-is_file.result.now
    c.in_ok-numbers.numbers.items c.requires.inode c.requires.used c.as_slice-then-is_file.ensures.value c.in_ok-numbers.ensures.numbers c.in_ok-numbers.ensures.device.contents

pub returns-then-is_file-clause-kind : goal.returns-then-is_file-clause-kind
returns-then-is_file-clause-kind g c =
    file_kind c.args.layout.now.version (g.D.Device.contents c.args.device.now) (g.D.Device.contents c.numbers_at.new.device) c.args.inode.now c.new.result c.in_ok-bytes.bytes.items
    (sym c.is_directory.ensures ∙ c.if-is_directory.false) (sym c.is_file.ensures ∙ c.if-is_file.true) c.new.ensures c.in_ok-bytes.ensures.content c.in_ok-numbers.ensures.device.contents

pub returns-clause-kind : goal.returns-clause-kind
returns-clause-kind g c =
    let major : SFits w16 c.args.inode.now.major = search rules in
    let minor : SFits w16 c.args.inode.now.minor = search rules in
    simp to_z-of_z
    (device_kind c.args.layout.now.version (g.D.Device.contents c.args.device.now) c.args.inode.now (sym c.is_directory.ensures ∙ c.if-is_directory.false) (sym c.is_file.ensures ∙ c.if-is_file.false))
