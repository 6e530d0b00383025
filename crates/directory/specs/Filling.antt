-- The names of a new directory, written.
use Rattle.std.specs.Prelude.{ℕ, ◌==◌, List, ◌++◌}
use Rattle.directory.specs.Vocabulary.{Dinode, Super, Version, Used, spell_dirent, new_directory_size_of, dot, dotdot, Ret, bind, P, WriteResult, write_part, Hand, Op, write_left, write_asked, WriteReady}
use Rattle.directory.specs.declared.fill.Fill.{Fill}
use Rattle.directory.specs.declared.fill.Filled.{Filled}

-- "." for itself, and ".." for its parent
abbrev pub dots : Version → (n parent : ℕ) → List ℕ
dots v n parent = spell_dirent v (Used n dot) ++ spell_dirent v (Used parent dotdot)

-- they are in one block, so both were written or nothing
abbrev pub filled_in : Version → WriteResult → Filled
filled_in v w = record { inode = w.inode; whole = w.upto == new_directory_size_of v }

abbrev pub filled_by : Version → WriteResult → P Filled
filled_by v w = Ret (filled_in v w)

-- into inode n, whose record is d
abbrev pub fill : Super → (n : ℕ) → Dinode → (parent : ℕ) → P Filled
fill sizes n d parent = bind (write_part sizes n d 0 (dots sizes.version n parent)) (filled_by sizes.version)

-- the bytes that it writes
abbrev pub dots_in : Fill → List ℕ
dots_in m = dots m.version m.number m.parent

abbrev pub fill_left : Fill → Hand → P Filled
fill_left m h = bind (write_left (dots_in m) m.part h) (filled_by m.version)

abbrev pub fill_asked : Fill → Op
fill_asked m = write_asked m.part

abbrev pub FillReady : Fill → Hand → Type 0
FillReady m h = WriteReady (dots_in m) m.part h
