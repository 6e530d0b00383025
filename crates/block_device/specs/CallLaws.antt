-- Laws of calls, one after the other.
use Rattle.block_device.specs.Calls.{ComesByCalls, none, one_more}

module _ {D : Type 0} {Called : D → D → Type 0} where
  pub no_call : (a : D) → ComesByCalls Called a a
  no_call a = none

  pub one_call : {a b : D} → Called a b → ComesByCalls Called a b
  one_call call = one_more none call

  -- some, and then some more
  pub calls_after : {a b c : D} → ComesByCalls Called a b → ComesByCalls Called b c → ComesByCalls Called a c
  calls_after first none = first
  calls_after first (one_more then call) = one_more (calls_after first then) call

pub ruleset by_calls = (no_call, one_call, calls_after)
