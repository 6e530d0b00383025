-- The rest of a write.
use Rattle.std.specs.Prelude.{◌≡◌, ◌≤◌, ℕ, zero, suc, ◌+◌, ◌*◌, List, [], length}
use Rattle.whole_calls.specs.Vocabulary.{piece, piece_count, piece_len, Reply, Do, unmarked, JoinFile, WriteFile, Join, Leave, P, say, joined_on, refused_to, write_from, write_piece, write_program, write_reply, writes, wrote_on, reply_to, wrote_of, IsNamed, Ask}
use Rattle.image_versions.specs.declared.version.Version.{Version}
use Rattle.plain_tree.specs.declared.call.Call.TheVariants as calls
use Rattle.path_walk.specs.declared.asks.Ask.TheVariants as ask
use Rattle.whole_calls.specs.declared.writing.Piece.{Piece}
use Rattle.whole_calls.specs.declared.writing.Write.{Write}
use Rattle.whole_calls.specs.declared.writing.Write.TheVariants as writing

module _ (fd : ℕ) (bytes : List ℕ) where
  -- what comes after a piece that was written, before so many more
  abbrev pub more_of : (n more i : ℕ) → P Reply
  more_of n zero i = say (write_reply fd bytes)
  more_of n (suc left) i = Do Join unmarked (λ _. write_from fd n bytes left (i + 1))

  abbrev pub more_after : Piece → P Reply
  more_after p = more_of p.number p.more p.index

  abbrev pub write_of : Write → P Reply
  write_of writing.Check = write_program fd []
  write_of writing.Join = Do (JoinFile fd) (refused_to fd (piece bytes 0)) (joined_on fd bytes)
  write_of (writing.Lock p) = write_piece fd p.number bytes p.index (more_after p)
  write_of (writing.Part p n offset) = Do (WriteFile fd n offset (piece bytes p.index)) (writes fd (piece bytes p.index))
      (λ a. Do Leave unmarked (λ _. wrote_on fd bytes (more_after p) a))
  write_of (writing.Leave p w) = Do Leave unmarked (λ _. wrote_on fd bytes (more_after p) (wrote_of w))
  write_of (writing.JoinNext p) = Do Join unmarked (λ _. write_from fd p.number bytes p.more p.index)
  write_of (writing.Says a) = say (reply_to (calls.Write fd bytes) a)

-- a piece that is to be written begins within the bytes
abbrev pub WriteAsks : Version → List ℕ → Ask → Type 0
WriteAsks v bytes (ask.WriteFile fd n offset i) = piece_len * i ≤ length bytes
WriteAsks v bytes a = IsNamed v bytes a

-- it is one of theirs, with `more` others after it
abbrev pub IsPieceOf : List ℕ → Piece → Type 0
IsPieceOf bytes p = p.index + p.more + 1 ≡ piece_count bytes

abbrev pub WriteFits : List ℕ → Write → Type 0
WriteFits bytes writing.Check = bytes ≡ []
WriteFits bytes writing.Join = Unit {0}
WriteFits bytes (writing.Lock p) = IsPieceOf bytes p
WriteFits bytes (writing.Part p n offset) = IsPieceOf bytes p
WriteFits bytes (writing.Leave p w) = IsPieceOf bytes p
WriteFits bytes (writing.JoinNext p) = IsPieceOf bytes p
WriteFits bytes (writing.Says a) = Unit {0}
