-- The states that calls lead a device to.

module _ {D : Type 0} (Called : D → D → Type 0) where
  -- The second state comes from the first by calls: by none, or by one more after some.
  pub data ComesByCalls (from : D) : D → Type 0 where
    none : ComesByCalls from from
    one_more : {between to : D} → ComesByCalls from between → Called between to → ComesByCalls from to
