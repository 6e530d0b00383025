use Rattle.locked_world.proofs.Lemmas.{arith, events_count}
use Rattle.locked_world.proofs.story.Story.make_room.Goals as goal

pub returns-in_err-make_room-clause-few : goal.returns-in_err-make_room-clause-few
returns-in_err-make_room-clause-few c = omega (arith, events_count c.make_room.new.list.items c.self.inside.calls.items, c.make_room.new.list.ok, c.make_room.new.list.small)

pub returns-in_err-make_room-2-clause-few : goal.returns-in_err-make_room-2-clause-few
returns-in_err-make_room-2-clause-few c = omega (arith, events_count c.make_room.new.list.items c.make_room-2.new.list.items, c.make_room.new.list.ok, c.make_room.new.list.small)

pub returns-clause-few : goal.returns-clause-few
returns-clause-few c = omega (arith, events_count c.make_room.new.list.items c.make_room-2.new.list.items, c.make_room.new.list.ok, c.make_room.new.list.small)
