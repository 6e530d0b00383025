-- A read's buffer in code fills as the read goes on. In the end its front has what is read, and so the call goes on
-- as one whose buffer was as it began.
use Rattle.std.specs.Prelude.{◌≡◌, ◌⊎◌, ℕ, List, [], ◌++◌, length, take, drop}
use Rattle.calls_on_blocks.proofs.Vocabulary.{refl, sym, ◌∙◌, ap, inl, inr}
use Rattle.std.proofs.Math.Seq.{take-append_seam, drop-append_seam}
use Rattle.atomic_programs.specs.Prog.{Ret, bind}
use Rattle.atomic_programs.specs.Joined.{Handover}
use Rattle.fs_layout.specs.declared.superblock.Super.{Super}
use Rattle.fs_machine.specs.Controls.{Goes}
use Rattle.fs_machine.specs.Machines.{P}
use Rattle.inode_machine.specs.Parts as programs
use Rattle.inode_machine.specs.Descriptors.{read_reply}
use Rattle.inode_parts.specs.Calls.{IsReading, whole_with}
use Rattle.inode_parts.specs.FileReads.{FillsFrom, filled}
use Rattle.inode_parts.specs.Parts.{Message, Part, hears_in}
use Rattle.inodes_on_blocks.specs.Lowering.{Carry}
use Rattle.path_walk.specs.Asks.{count_in}
use Rattle.plain_tree.specs.declared.answer.Reply.{Reply}
use Rattle.plain_tree.specs.declared.answer.Answer.TheVariants as answers
use Rattle.plain_tree.specs.declared.call.Call.{Call}
use Rattle.plain_tree.specs.declared.call.Call.TheVariants as calls
use Rattle.whole_calls.specs.Reads.{read_of}
use Rattle.whole_calls.specs.Wholes.{text_in, whole_of}
use Rattle.whole_calls.specs.declared.reading.Read.TheVariants as reading
use Rattle.whole_calls.specs.declared.whole.Whole.{Whole}
use Rattle.whole_calls.specs.declared.whole.Whole.TheVariants as whole
use Rattle.kept_histories.proofs.Controls.{Answers, goes_same, same_end}
use Rattle.image_versions.specs.declared.version.Version.{Version}

-- the bytes that were read, of a text that was handed over
abbrev pub front : Message → List ℕ
front x = take (count_in x.1) x.0

-- the same text, with what this one had there after those bytes
abbrev pub refilled : List ℕ → Handover Message Carry → List ℕ
refilled text r = front r.answer ++ drop (length (front r.answer)) text

-- a reply that shows a text
abbrev showing : List ℕ → Reply
showing text = record { answer = answers.Done; call = calls.Read 0 text }

abbrev shown_in : Call → List ℕ
shown_in (calls.Open path flags) = []
shown_in (calls.Read fd buf) = buf
shown_in (calls.Write fd bytes) = []
shown_in (calls.Link old new) = []
shown_in (calls.Unlink path) = []
shown_in (calls.Mkdir path) = []
shown_in (calls.Chdir path) = []
shown_in (calls.Dup fd) = []
shown_in (calls.Fstat fd) = []
shown_in (calls.Close fd) = []
shown_in (calls.Inherit child) = []

-- at each end of the part it is so
abbrev ends_with : (Handover Message Carry → List ℕ) → Part → P Reply
ends_with text_of q = bind q (λ r. Ret (showing (text_of r)))

abbrev pub EndsFilled : List ℕ → Part → Type 0
EndsFilled text q = ends_with (λ r. r.answer.0) q ≡ ends_with (refilled text) q

front_is : (text b : List ℕ) (c : Carry) → front (filled text b c).answer ≡ b
front_is text b c = take-append_seam b (drop (length b) text)

refilled_is : (text b : List ℕ) (c : Carry) → b ++ drop (length b) text ≡ refilled text (filled text b c)
refilled_is text b c = ap (λ (z : List ℕ). z ++ drop (length z) text) (sym (front_is text b c))

pub fills_so : (text : List ℕ) (q : Part) → FillsFrom text q → EndsFilled text q
fills_so text q fills = fills (λ r. Ret (showing (r.answer.0))) (λ r. Ret (showing (refilled text r))) (λ b c. ap (λ (z : List ℕ). Ret (showing z)) (refilled_is text b c))

-- ---- the rest of a call, by what its text is by then

-- It is a read whose part is under way, of which this was the buffer as the part began; or the text is what it was.
abbrev pub IsRead : (List ℕ → programs.P Reply) → List ℕ → Part → Type 0
IsRead left text q = (fd n offset : ℕ) × ((t : List ℕ) → left t ≡ read_of fd t (reading.Part n offset)) × EndsFilled text q

abbrev pub TextFits : (List ℕ → programs.P Reply) → List ℕ → Part → Type 0
TextFits left text q = IsRead left text q ⊎ ((t : List ℕ) → left t ≡ left text)

pub text_goes : (left : List ℕ → programs.P Reply) (text : List ℕ) (q p : Part) (answer : Answers) → TextFits left text q → Goes q answer p → TextFits left text p
text_goes left text q p answer (inl r) goes = inl (r.0, r.1, r.2, r.3, goes_same answer q p (λ r. Ret (showing (r.answer.0))) (λ r. Ret (showing (refilled text r))) r.4 goes)
text_goes left text q p answer (inr same) goes = inr same

module _ (sizes : Super) where
  read_hears : (fd n offset : ℕ) (text : List ℕ) (e : Handover Message Carry) → e.answer.0 ≡ refilled text e
      → hears_in sizes (read_of fd (e.answer.0) (reading.Part n offset)) e.answer ≡ hears_in sizes (read_of fd text (reading.Part n offset)) e.answer
  read_hears fd n offset text e is =
      let b = front e.answer in
      let past : drop (length b) (e.answer.0) ≡ drop (length b) text = ap (drop (length b)) is ∙ drop-append_seam b (drop (length b) text) in
      λ i. programs.say (record { answer = (read_reply fd text b).answer; call = calls.Read fd (b ++ past i) })

  -- so the call goes on, by what the part hands over, as with the text that it began with
  pub hears_same : (left : List ℕ → programs.P Reply) (text : List ℕ) (e : Handover Message Carry) → TextFits left text (Ret e)
      → hears_in sizes (left (e.answer.0)) e.answer ≡ hears_in sizes (left text) e.answer
  hears_same left text e (inr same) = ap (λ (z : programs.P Reply). hears_in sizes z e.answer) (same (e.answer.0))
  hears_same left text e (inl r) =
      ap (λ (z : programs.P Reply). hears_in sizes z e.answer) (r.3 (e.answer.0))
      ∙ read_hears r.0 r.1 r.2 text e (ap (λ (z : Reply). shown_in z.call) (same_end (showing (e.answer.0)) (showing (refilled text e)) r.4))
      ∙ ap (λ (z : programs.P Reply). hears_in sizes z e.answer) (sym (r.3 text))

-- ---- a part that begins

pub with_own_text : (version : Version) (ns : List ℕ) (w : Whole) → whole_with version ns w (text_in w) ≡ whole_of version ns w
with_own_text version ns (whole.Open path flags c) = refl
with_own_text version ns (whole.Read fd buf reading.Lock) = refl
with_own_text version ns (whole.Read fd buf (reading.Part n offset)) = refl
with_own_text version ns (whole.Read fd buf (reading.Says count)) = refl
with_own_text version ns (whole.Write fd bytes c) = refl
with_own_text version ns (whole.Link old new c) = refl
with_own_text version ns (whole.Unlink path c) = refl
with_own_text version ns (whole.Mkdir path c) = refl
with_own_text version ns (whole.Chdir path c) = refl
with_own_text version ns (whole.Dup fd c) = refl
with_own_text version ns (whole.Fstat fd c) = refl
with_own_text version ns (whole.Close fd c) = refl
with_own_text version ns (whole.Inherit child c) = refl

pub text_fits : (version : Version) (ns : List ℕ) (w : Whole) (q : Part) → (IsReading w → FillsFrom (text_in w) q) → TextFits (whole_with version ns w) (text_in w) q
text_fits version ns (whole.Open path flags c) q fills = inr (λ t. refl)
text_fits version ns (whole.Read fd buf reading.Lock) q fills = inr (λ t. refl)
text_fits version ns (whole.Read fd buf (reading.Part n offset)) q fills = inl (fd, n, offset, (λ t. refl), fills_so buf.items q (fills tt))
text_fits version ns (whole.Read fd buf (reading.Says count)) q fills = inr (λ t. refl)
text_fits version ns (whole.Write fd bytes c) q fills = inr (λ t. refl)
text_fits version ns (whole.Link old new c) q fills = inr (λ t. refl)
text_fits version ns (whole.Unlink path c) q fills = inr (λ t. refl)
text_fits version ns (whole.Mkdir path c) q fills = inr (λ t. refl)
text_fits version ns (whole.Chdir path c) q fills = inr (λ t. refl)
text_fits version ns (whole.Dup fd c) q fills = inr (λ t. refl)
text_fits version ns (whole.Fstat fd c) q fills = inr (λ t. refl)
text_fits version ns (whole.Close fd c) q fills = inr (λ t. refl)
text_fits version ns (whole.Inherit child c) q fills = inr (λ t. refl)
