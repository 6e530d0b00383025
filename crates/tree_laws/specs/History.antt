-- The history so far: the list of tree steps that is kept beside the trace, and the state of each hart's call.
-- Entries are appended, never changed.
use Rattle.std.specs.Prelude.{ℕ, List, [], ◌∷◌, ◌++◌, length, Option, Some, None}
use Rattle.tree_laws.specs.Vocabulary.{Reply, Call, Trace, Placed, put, Act, noted, Started, Replied, Other}
use Rattle.tree_laws.specs.Moves.{Deed}

-- id: the call's place in the trace; `told`: the acts that the call was handed
pub data HartStanding : Type 0 where
  Free : HartStanding
  Busy : (id : ℕ) → (c : Call) → (told : List Act) → HartStanding

pub record History : Type 0 where
  pub list : List Placed
  pub trace : Trace
  pub calls : ℕ → HartStanding  -- by hart

-- a deed with its moment and its call
abbrev pub entry_of : ℕ → ℕ → ℕ → Deed → Placed
entry_of event id h d =
    record { event = event; call = id; step = record { hart = h; new = d.new; action = d.act.step }; answer = d.act.answer }

-- the deed of the hart's call is written in the list
abbrev pub writes : HartStanding → History → ℕ → Deed → History
writes Free b h d = b
writes (Busy id c told) b h d = record b { list = b.list ++ entry_of b.trace.events id h d ∷ [] }

abbrev pub writes_any : Option Deed → ℕ → History → History
writes_any None h b = b
writes_any (Some d) h b = writes (b.calls h) b h d

-- the hart's call is handed the deed
abbrev pub tells : HartStanding → History → ℕ → Deed → History
tells Free b h d = b
tells (Busy id c told) b h d = record b { calls = put b.calls h (Busy id c (told ++ d.act ∷ [])) }

abbrev pub tells_any : Option Deed → ℕ → History → History
tells_any None h b = b
tells_any (Some d) h b = tells (b.calls h) b h d

-- the event ends: a call starts, replies, or neither
abbrev pub starts : History → ℕ → Call → History
starts b h c = record { list = b.list; trace = noted b.trace (Started h c); calls = put b.calls h (Busy (length b.trace.calls) c []) }

abbrev pub replies : History → ℕ → Reply → History
replies b h r = record { list = b.list; trace = noted b.trace (Replied h r); calls = put b.calls h Free }

abbrev pub passes : History → History
passes b = record { list = b.list; trace = noted b.trace Other; calls = b.calls }
