-- The tables at first.
use Rattle.std.specs.Prelude.{None, replicate, slice_set}
use Rattle.fs_machine.specs.Vocabulary.{row_of}
use Rattle.fs_machine.specs.declared.desk.Desk.{Desk}
use Rattle.fs_machine.specs.declared.files.FilePlace.TheVariants.{Free}
use Rattle.fs_machine.specs.Limits.{inode_places, file_places, desk_count, descriptor_count, root}
use Rattle.fs_machine.specs.Tables.{TablesState}

abbrev pub fresh_desk : Desk
fresh_desk = record { descriptors = replicate descriptor_count None; directory = root; hand = None }

-- each hart's directory is the root, and nothing is open or loaded
abbrev pub fresh : TablesState
fresh =
    record {
      entries = slice_set (replicate inode_places (record { number = root; references = 0 })) 0
          (record { number = root; references = desk_count });
      locks = row_of 0 (replicate inode_places (record { number = root; content = None }));
      files = replicate file_places Free;
      desks = replicate desk_count fresh_desk;
    }
