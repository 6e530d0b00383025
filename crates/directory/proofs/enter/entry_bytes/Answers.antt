use Rattle.directory.proofs.Lemmas.{name_parts, spelled}
use Rattle.directory.proofs.enter.entry_bytes.Goals as goal

pub returns : goal.returns
returns c =
    let short = (name_parts c.args.version c.args.name.now c.requires).high in
    spelled c.args.version c.args.number c.args.name.now c.write_u16.new.buf c.copy_from_slice.new.self short c.write_u16.ensures c.copy_from_slice.ensures.after
