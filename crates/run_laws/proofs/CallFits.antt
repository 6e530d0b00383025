-- What each call that is served asks for fits.
use Rattle.run_laws.proofs.Vocabulary.{◌≡◌, ◌≤◌, ℕ, ◌*◌, true, List, [], length, Option, sym, subst, arith, length-take, Call, Reply, Ret, Do, P, Answer, Mark, program, piece, piece_len, is_served, Claim, Enter, WriteFile, Version}
use Rattle.inode_machine.specs.World.{Op}
use Rattle.std.proofs.Common.{drop}
use Rattle.plain_tree.specs.declared.call.Call.TheVariants as calls
use Rattle.call_programs.specs.Asks.{AsksSo, Before, IsPieceOf, May, after, fresh, holding}
use Rattle.call_programs.proofs.Calls.{calls_ask}
use Rattle.calls_on_blocks.proofs.Uses.{is_bytes, is_made}
use Rattle.run_laws.proofs.Fits.{AllFitUpTo, Fits}

-- no more than a piece has
pub piece_few : (bytes : List ℕ) (i : ℕ) → length (piece bytes i) ≤ 3072
piece_few bytes i = let t = length-take piece_len (drop (piece_len * i) bytes) in omega (arith, t)

-- how much a call writes at once: a piece
abbrev pub most_written : Call → ℕ
most_written (calls.Write fd bytes) = piece_len
most_written call = 0

is_few : (call : Call) (b : List ℕ) → IsPieceOf call b → length b ≤ most_written call
is_few (calls.Write fd bytes) b is = subst (λ (z : List ℕ). length z ≤ 3072) (sym is.1.2) (piece_few bytes is.1.0)
is_few call b is = absurd is

module _ (version : Version) (call : Call) (e : is_served call ≡ true) where
  op_fits : (s : Before) (op : Op) (m : Answer op → Option Mark) (k : Answer op → P Reply) → May version call s op m k → Fits version (most_written call) op
  op_fits s (Claim inode_type) m k may = is_made inode_type may.0
  op_fits s (Enter d name n) m k may = may.0
  op_fits s (WriteFile fd n offset bytes) m k may = let is = is_bytes call bytes e may.0 in (is.0, is.1, is_few call bytes may.0)
  op_fits s op m k may = tt

  fits : (s : Before) (p : P Reply) → AsksSo version call s p → AllFitUpTo version (most_written call) p
  fits s (Ret r) asks = tt
  fits s (Do op m k) asks = (op_fits s op m k asks.0.1, asks.0.0, λ a. fits (after version call s op m k asks.0 a) (k a) (asks.1 a))

  pub call_fits : AllFitUpTo version (most_written call) (program version call)
  call_fits = fits (holding [] fresh []) (program version call) (calls_ask version call)
