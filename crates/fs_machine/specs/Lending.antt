-- What is lent to be changed: the index of an inode in memory, and of what is in hand.
use Rattle.std.specs.Prelude.{ℕ, List}
use Rattle.std.specs.Borrow.{Array, u8}
use Rattle.fs_machine.specs.Vocabulary.{Fml, Lends, MutBor}
use Rattle.fs_machine.specs.InMemory.{IndexState, Inode, with_index_of}
use Rattle.fs_machine.specs.Hands.{with_bytes, with_index}
use Rattle.fs_machine.specs.declared.hand.Hand.{Hand}
use Rattle.fs_machine.specs.declared.hand.InodePlace.{InodePlace}
use Rattle.fs_machine.specs.declared.hand.Place.{Place}
use Rattle.fs_machine.specs.contracts.entries.Inode.{the_row}
use Rattle.fs_machine.specs.contracts.name_index.NameIndex as lent
use Rattle.fs_machine.specs.contracts.hand.Hand as hands

-- the inode ends with the last index of r
abbrev pub LendsIndex : MutBor Inode → MutBor IndexState → Fml
LendsIndex b r = Lends the_row lent.the_row b r (λ x. with_index_of x b.now)

-- the buffer at a place ends with the last bytes of r
abbrev pub LendsBlock : MutBor Hand → Place → MutBor (List ℕ) → Fml
LendsBlock h p r = Lends hands.the_row (Array u8 1024) h r (λ bytes. with_bytes p bytes h.now)

-- the inode at a seat ends with the last index of r
abbrev pub LendsIndexAt : MutBor Hand → InodePlace → MutBor IndexState → Fml
LendsIndexAt h k r = Lends hands.the_row lent.the_row h r (λ x. with_index k x h.now)
