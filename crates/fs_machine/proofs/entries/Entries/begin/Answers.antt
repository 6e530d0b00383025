use Rattle.std.proofs.Common.{length-set}
use Rattle.fs_machine.proofs.Lemmas.{◌∙◌, arith, Entry, free_more, free_set}
use Rattle.fs_machine.proofs.entries.Entries.begin.Goals as goal

pub invariant_of-self : goal.invariant_of-self
invariant_of-self c =
    let es = c.self.inside.entries in
    let begun : Entry = record { number = c.args.number; references = 1 } in
    let most = c.max-self-inside.ensures in
    let inside = c.self.invariant in
    let lt = c.requires in
    record {
      places = length-set es c.args.place begun ∙ inside.places;
      within = omega (arith, most, inside.within, lt);
      free = free_set es c.max-self-inside.result c.args.place begun (omega (arith, most)) (free_more es c.self.inside.used c.max-self-inside.result (omega (arith, most)) inside.free);
    }
