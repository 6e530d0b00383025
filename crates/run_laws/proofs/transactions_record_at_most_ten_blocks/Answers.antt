use Rattle.run_laws.proofs.Transactions.{at_most_ten}
use Rattle.run_laws.proofs.transactions_record_at_most_ten_blocks.Goals as goal

pub returns : goal.returns
returns g c = at_most_ten g.D.Device.contents g.D.Device.failures c.args.world.now
