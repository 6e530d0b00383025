use Rattle.mkfs.proofs.Lemmas.{subst, ReadsOne, Reads, first_part, number_read, number_is}
use Rattle.mkfs.proofs.command_line.number.Goals as goal

pub unwrap-requires : goal.unwrap-requires
unwrap-requires c = number_read Reads first_part c.args.matches.now c.args.id.now c.get_one.result c.get_one.ensures.value c.requires

pub returns : goal.returns
returns c =
    λ h.
    number_is Reads first_part c.args.matches.now c.args.id.now c.unwrap.result
    (λ t e. subst (λ r. ReadsOne Reads t r) c.unwrap.ensures (c.get_one.ensures.value t e)) h
