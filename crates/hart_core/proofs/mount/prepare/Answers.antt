use Rattle.hart_core.proofs.Lemmas.{◌∙◌, handed_back, refused_memory, settled_so, sizes_so, tree_so, well_found, well_so}
use Rattle.hart_core.proofs.mount.prepare.Goals as goal

pub returns-in-Err-clause-err : goal.returns-in-Err-clause-err
returns-in-Err-clause-err g c =
    let contents = g.D.Device.contents in
    let first = c.args.device.now in
    let middle = c.examine_layout.new.device in
    let last = c.settle.new.device in
    let is = c.in_ok-version.ensures.version in
    let same = c.in_ok-layout.ensures.device.contents ∙ c.in_ok-version.ensures.device.contents in
    let count = c.in_ok-layout.ensures.device.faults ∙ c.in_ok-version.ensures.device.faults in
    let did = c.settle.ensures in
    handed_back contents g.D.Device.failures first middle last same count c.from.result c.from.ensures
    (sizes_so _ (contents first) (contents middle) (contents last) is same did.sizes)
    (well_so _ (contents first) (contents middle) (contents last) is same did.sizes did.well)
    (tree_so _ (contents first) (contents middle) (contents last) is same did.sizes did.tree) c.in-Err.ensures.faults

pub returns-clause-ok : goal.returns-clause-ok
returns-clause-ok g c =
    let contents = g.D.Device.contents in
    let first = contents c.args.device.now in
    let middle = contents c.examine_layout.new.device in
    let last = contents c.settle.new.device in
    let is = c.in_ok-version.ensures.version in
    let same = c.in_ok-layout.ensures.device.contents ∙ c.in_ok-version.ensures.device.contents in
    let did = c.settle.ensures in (
      well_found _ first (contents c.find_version.new.device) is c.in_ok-version.ensures.device.contents c.in_ok-layout.ensures.judges.2,
      settled_so _ first middle last is same did.sizes c.in-Ok.ensures.home c.in-Ok.ensures.empty did.well did.tree c.in-Ok.ensures.named c.in-Ok.ensures.freed,
    )

pub returns-in_err-calls-clause-err : goal.returns-in_err-calls-clause-err
returns-in_err-calls-clause-err g c =
    refused_memory g.D.Device.contents g.D.Device.failures c.args.device.now c.examine_layout.new.device c.examine_layout.new.device
    (c.in_ok-layout.ensures.device.contents ∙ c.in_ok-version.ensures.device.contents) (c.in_ok-layout.ensures.device.faults ∙ c.in_ok-version.ensures.device.faults)
    c.from_residual-in_err-calls.result c.from_residual-in_err-calls.ensures.1

pub returns-clause-blocks : goal.returns-clause-blocks
returns-clause-blocks g c = (g.met.D.Device.whole c.settle.new.device, c.blocks-count.ensures.bytes)
