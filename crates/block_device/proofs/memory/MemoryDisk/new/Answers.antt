use Rattle.block_device.specs.BlockLaws.{length-blocks_of, blocks_of-concat}
use Rattle.block_device.proofs.memory.MemoryDisk.new.Goals as goal

pub returns-clause-count : goal.returns-clause-count
returns-clause-count c = length-blocks_of c.args.bytes.items

pub returns-clause-parts : goal.returns-clause-parts
returns-clause-parts c = blocks_of-concat c.args.bytes.items
