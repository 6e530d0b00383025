-- A call of the kept tree asks for the operation under way too, and goes on as that is answered. It hasn't the bytes that a read has read,
-- but what comes after those is the reply alone.
use Rattle.std.specs.Prelude.{◌≡◌, ◌⊎◌, ℕ, List, Option, Some, None, take}
use Rattle.calls_on_blocks.proofs.Vocabulary.{refl, sym, ◌∙◌, ap, subst, inl, inr}
use Rattle.atomic_programs.specs.Prog.{Ret, Do, asks}
use Rattle.inode_machine.specs.Descriptors.{read_reply}
use Rattle.inode_machine.specs.Parts as programs
use Rattle.inode_machine.specs.World as above
use Rattle.inode_machine.specs.World.Op.{ReadFile}
use Rattle.inode_parts.specs.Calls.{IsReading}
use Rattle.path_walk.specs.Asks.{answer_to, count_in, hears}
use Rattle.path_walk.specs.declared.asks.Heard.{Heard}
use Rattle.plain_tree.specs.declared.answer.Reply.{Reply}
use Rattle.run_laws.specs.UnderWay.{UnderWay}
use Rattle.tree_histories.specs.Keeping.{GoesOn, HearsSo, ReadsTooMuch, Under}
use Rattle.whole_calls.specs.Wholes.{text_in, whole_of}
use Rattle.whole_calls.specs.declared.reading.Read.TheVariants as reading
use Rattle.whole_calls.specs.declared.whole.Whole.{Whole}
use Rattle.whole_calls.specs.declared.whole.Whole.TheVariants as whole
use Rattle.kept_histories.proofs.Heads.{IsFine, IsFineOp, reads_or_fine}
use Rattle.image_versions.specs.declared.version.Version.{Version}

-- the call's program; or the reply is all that is left of both
abbrev pub KeptAs : Version → programs.P Reply → Under → Type 0
KeptAs version p v = (p ≡ whole_of version v.listed v.whole) ⊎ ((r q : Reply) × (p ≡ programs.say r) × (whole_of version v.listed v.whole ≡ programs.say q))

-- so it asks for the same operation
pub same_asked : (version : Version) (p : programs.P Reply) (v : Under) → KeptAs version p v → (op : above.Op) → asks p ≡ Some op
    → asks (whole_of version v.listed v.whole) ≡ Some op
same_asked version p v kept op is = elim kept [
  | inl e ↦ sym (ap asks e) ∙ is
  | inr s ↦ ap asks s.3 ∙ sym (ap asks s.2) ∙ is
]

no_end : {X : Type 0} (op : above.Op) (m : above.Answer op → Option above.Mark) (k : above.Answer op → programs.P Reply) (r : Reply)
    → ◌≡◌ {A = programs.P Reply} (Do op m k) (Ret r) → X
no_end op m k r e = absurd (let q : Some op ≡ None = ap asks e in cc)

-- what is answered isn't in the text, but for a read
pub same_heard : (op : above.Op) (m : above.Answer op → Option above.Mark) → IsFineOp op m → (text other : List ℕ) (x : Heard) → answer_to text op x ≡ answer_to other op x
same_heard (ReadFile fd n offset count) m fine text other x = absurd fine
same_heard op m fine text other x = refl

module _ (version : Version) (u : UnderWay) (v : Under) (x : Heard) (text : List ℕ) (a : above.Answer u.op) (is : a ≡ answer_to text u.op x)
    (kept : KeptAs version (Do u.op u.mark u.rest) v) (op : above.Op) (m : above.Answer op → Option above.Mark) (k : above.Answer op → programs.P Reply)
    (next : ◌≡◌ {A = programs.P Reply} (Do op m k) (u.rest a)) where
  -- so the program goes on, with whatever was in its text
  heard_in : (p : programs.P Reply) → ◌≡◌ {A = programs.P Reply} (Do u.op u.mark u.rest) p → Do op m k ≡ hears text p x
  heard_in p e = next ∙ ap u.rest is ∙ ap (λ (z : programs.P Reply). hears text z x) e

  -- the same operation was under way in the kept tree
  fine_next : ◌≡◌ {A = programs.P Reply} (Do u.op u.mark u.rest) (whole_of version v.listed v.whole) → IsFine (whole_of version v.listed v.whole) → Do op m k ≡ hears (text_in v.whole) (whole_of version v.listed v.whole) x
  fine_next e fine =
      let here : IsFineOp u.op u.mark = subst IsFine (sym e) fine in
      next ∙ ap u.rest (is ∙ same_heard u.op u.mark here text (text_in v.whole) x) ∙ ap (λ (z : programs.P Reply). hears (text_in v.whole) z x) e

  -- a read is followed by its reply
  reads_next : (w : Whole) (ns : List ℕ) → IsReading w → ◌≡◌ {A = programs.P Reply} (Do u.op u.mark u.rest) (whole_of version ns w)
      → (r q : Reply) × (Do op m k ≡ programs.say r) × (hears (text_in w) (whole_of version ns w) x ≡ programs.say q)
  reads_next (whole.Read fd buf (reading.Part n offset)) ns t e =
      (read_reply fd buf.items (take (count_in x) text), read_reply fd buf.items (take (count_in x) buf.items), heard_in _ e, refl)
  reads_next (whole.Read fd buf reading.Lock) ns t e = absurd t
  reads_next (whole.Read fd buf (reading.Says count)) ns t e = absurd t
  reads_next (whole.Open path flags c) ns t e = absurd t
  reads_next (whole.Write fd bytes c) ns t e = absurd t
  reads_next (whole.Link old new c) ns t e = absurd t
  reads_next (whole.Unlink path c) ns t e = absurd t
  reads_next (whole.Mkdir path c) ns t e = absurd t
  reads_next (whole.Chdir path c) ns t e = absurd t
  reads_next (whole.Dup fd c) ns t e = absurd t
  reads_next (whole.Fstat fd c) ns t e = absurd t
  reads_next (whole.Close fd c) ns t e = absurd t
  reads_next (whole.Inherit child c) ns t e = absurd t

  -- the rest of the kept call is that too, or both are at their reply
  kept_next : (Do op m k ≡ hears (text_in v.whole) (whole_of version v.listed v.whole) x)
      ⊎ ((r q : Reply) × (Do op m k ≡ programs.say r) × (hears (text_in v.whole) (whole_of version v.listed v.whole) x ≡ programs.say q))
  kept_next = elim kept [
    | inl e ↦ elim (reads_or_fine version v.listed v.whole) [
      | inl reads ↦ inr (reads_next v.whole v.listed reads e)
      | inr fine ↦ inl (fine_next e fine)
    ]
    | inr s ↦ absurd (let q : Some op ≡ None = ap asks (heard_in (programs.say s.0) s.2) in cc)
  ]

  pub record HeardOn (o : Option Under) : Type 0 where
    pub then_ : Under
    pub found : o ≡ Some then_
    pub goes : GoesOn version v x then_
    pub follows : KeptAs version (Do op m k) then_

  heard_on : (w : Under) → GoesOn version v x w → HeardOn (Some w)
  heard_on w g = record {
    then_ = w;
    found = refl;
    goes = g;
    follows = elim kept_next [
      | inl e ↦ inl (e ∙ g.program)
      | inr s ↦ inr (s.0, s.1, s.2, sym g.program ∙ s.3)
    ];
  }

  -- As the operation under way is answered with what was heard, and the next one begins, so does the kept call.
  pub hears_on : (o : Option Under) → HearsSo version v x o → (ReadsTooMuch x v.whole → ⊥) → HeardOn o
  hears_on (Some w) g room = heard_on w g
  hears_on None (inl much) room = absurd (room much)
  hears_on None (inr r) room = elim kept_next [
    | inl e ↦ no_end op m k _ (e ∙ r.1)
    | inr s ↦ absurd (let q : Some above.Say ≡ None = ap asks (sym s.3 ∙ r.1) in cc)
  ]
