-- What the calls of a trace tell of themselves: a path with the element "..", a reply that there is no room.
use Rattle.std.specs.Prelude.{ℕ, Bool, true, false, List, Option, Some, None}
use Rattle.tree_histories.specs.Vocabulary.{list_any, Answer, WasFull, Reply, TracedCall, call_climbs}

-- the path of a call has the element ".."
abbrev pub any_climbs : List TracedCall → Bool
any_climbs cs = list_any (λ c. call_climbs c.call) cs

abbrev pub is_full_answer : Answer → Bool
is_full_answer (WasFull f) = true
is_full_answer a = false

abbrev pub is_full_reply_in : Option (ℕ × Reply) → Bool
is_full_reply_in None = false
is_full_reply_in (Some r) = is_full_answer r.1.answer

-- the call was answered that there is no room
abbrev pub is_full_reply : TracedCall → Bool
is_full_reply c = is_full_reply_in c.finished

abbrev pub any_full : List TracedCall → Bool
any_full cs = list_any is_full_reply cs
