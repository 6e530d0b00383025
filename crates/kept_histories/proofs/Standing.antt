-- A hart's call in code is as far as the operation under way. Its control asks for the same operation, and the rest
-- of the part is the rest of the operation's program. So it is after each step.
use Rattle.std.specs.Prelude.{◌≡◌, ℕ, List, [], Bool, true, false, Option, Some, None}
use Rattle.calls_on_blocks.proofs.Vocabulary.{refl, sym, ◌∙◌, ap, subst}
use Rattle.atomic_programs.proofs.Explains.{Some-inj}
use Rattle.atomic_programs.specs.Joined.{Handover}
use Rattle.atomic_programs.specs.Prog.{Ret, Do, bind, plain, asks}
use Rattle.fs_layout.specs.declared.superblock.Super.{Super}
use Rattle.fs_machine.specs.Steps as steps
use Rattle.fs_machine.specs.declared.hand.Hand.{Hand}
use Rattle.inode_machine.specs.Parts as programs
use Rattle.inode_machine.specs.World as above
use Rattle.inode_parts.specs.Calls.{whole_with}
use Rattle.inode_parts.specs.Parts.{Message, Part, IsPart, answer_by, hears_in}
use Rattle.inode_parts.specs.Telling.{AsksNext, AsksOrEnds, GoesOrEnds, LoweredTells, PartEnds, PartGoesOn, part_of}
use Rattle.inode_parts.specs.declared.lowered.Lowered.{Lowered}
use Rattle.inodes_on_blocks.specs.Handlers.{Acts, P}
use Rattle.inodes_on_blocks.specs.Lowering.{Carry}
use Rattle.inodes_on_blocks.specs.Programs.{handlers}
use Rattle.path_walk.specs.Asks.{answer_to}
use Rattle.path_walk.specs.declared.asks.Heard.{Heard}
use Rattle.plain_tree.specs.declared.answer.Reply.{Reply}
use Rattle.run_laws.specs.Searches.{AnsweredStep}
use Rattle.run_laws.specs.UnderWay.{UnderWay, at_beginning}
use Rattle.whole_calls.specs.Wholes.{HasRoomFor, text_in}
use Rattle.kept_histories.proofs.Buffers.{TextFits, hears_same, text_fits, text_goes, with_own_text}
use Rattle.kept_histories.proofs.Controls.{Answers, at_end, goes_on_still, plain_end, plain_goes}
use Rattle.kept_histories.proofs.ReadRooms.{RoomOf, room_asked}
use Rattle.kept_histories.proofs.Basics.{none_some}
use Rattle.image_versions.specs.declared.version.Version.{Version}

-- what the operation sees in a part's end
abbrev pub handed : (op : above.Op) → Handover Message Carry → Handover (above.Answer op) Carry
handed op r = record { answer = answer_by op r.answer; carry = r.carry }

-- text: of a read whose part is under way, its buffer as that began; room: no more is heard to be read than the operation asks for
pub record StandsAt (version : Version) (u : UnderWay) (l : Lowered) (h : Hand) : Type 0 where
  pub text : List ℕ
  pub program : ◌≡◌ {A = programs.P Reply} (Do u.op u.mark u.rest) (whole_with version l.list l.call text)
  pub part : plain u.left ≡ bind (part_of l h) (λ r. Ret (handed u.op r))
  pub fits : TextFits (whole_with version l.list l.call) text (part_of l h)
  pub room : (x : Heard) → HasRoomFor x l.call → RoomOf u.op x

-- ---- an operation that begins

abbrev begun_at : (sizes : Super) → Carry → (op : above.Op) → (above.Answer op → Option above.Mark) → (above.Answer op → programs.P Reply)
    → UnderWay
begun_at sizes c op m k =
    record { op = op; mark = m; rest = k; hand = c; ran = []; left = handlers sizes c op m; acted = None }

-- the first operation of what is left is under way, and none of its steps has run
pub record Begins (sizes : Super) (c : Carry) (p : programs.P Reply) (l : Lowered) (h : Hand) : Type 0 where
  pub under : UnderWay
  pub is : at_beginning sizes c p ≡ Some under
  pub begun : under.ran ≡ []
  pub program : ◌≡◌ {A = programs.P Reply} (Do under.op under.mark under.rest) p
  pub stands : StandsAt sizes.version under l h

pub begins : (sizes : Super) (c : Carry) (p : programs.P Reply) (l : Lowered) (h : Hand) → AsksNext sizes c p l h → Begins sizes c p l h
begins sizes c (Ret a) l h next = none_some next.op (ap asks next.left ∙ next.asked)
begins sizes c (Do op m k) l h next =
    let same : op ≡ next.op = Some-inj op next.op (ap asks next.left ∙ next.asked) in
    record {
      under = begun_at sizes c op m k;
      is = refl;
      begun = refl;
      program = refl;
      stands = record {
        text = text_in l.call;
        program = next.left ∙ sym (with_own_text sizes.version l.list l.call);
        part = subst (λ (o : above.Op). IsPart sizes c o (part_of l h)) (sym same) next.part m;
        fits = text_fits sizes.version l.list l.call (part_of l h) next.fills;
        room = room_asked sizes.version l.list l.call op (ap asks (sym next.left));
      };
    }

-- ---- a step

module _ (sizes : Super) (u : UnderWay) (left : P (Handover (above.Answer u.op) Carry)) where
  -- the part's program goes on, or it has ended
  pub record WentOn (k : Lowered) (g : Hand) : Type 0 where
    pub goes_on : at_end left ≡ false
    pub stands : (ran : List AnsweredStep) (acted : Option (above.Answer u.op)) → StandsAt sizes.version (record u { ran = ran; left = left; acted = acted }) k g

  pub record Ended (out : Option (Unit {0})) (k : Lowered) (g : Hand) : Type 0 where
    pub end : Handover (above.Answer u.op) Carry
    pub is : left ≡ Ret end
    pub text : List ℕ
    pub answer : end.answer ≡ answer_to text u.op k.heard
    pub room : RoomOf u.op k.heard
    pub next : AsksOrEnds sizes end.carry (u.rest end.answer) out k g

  abbrev pub Went : Option (Unit {0}) → Bool → Lowered → Hand → Type 0
  Went None false k g = WentOn k g
  Went (Some end) false k g = ⊥
  Went out true k g = Ended out k g

module _ (sizes : Super) (u : UnderWay) (l : Lowered) (h : Hand) (stands : StandsAt sizes.version u l h) (sized : l.sizes ≡ sizes) (answer : Answers)
    (op : steps.Op) (mark : steps.Answer op → Option Acts) (rest : steps.Answer op → P (Handover (above.Answer u.op) Carry))
    (asks_it : u.left ≡ Do op mark rest) (k : Lowered) (g : Hand) where
  call_same : PartGoesOn l h answer k g → whole_with sizes.version k.list k.call ≡ whole_with sizes.version l.list l.call
  call_same p = subst (λ (s : Super). whole_with s.version k.list k.call ≡ whole_with s.version l.list l.call) sized p.call

  went_on : PartGoesOn l h answer k g → at_end (part_of k g) ≡ false → WentOn sizes u (rest (answer op)) k g
  went_on p goes =
      let is = plain_goes answer u.left op mark rest (part_of l h) (part_of k g) (λ r. Ret (handed u.op r)) asks_it stands.part p.goes in
      record {
        goes_on = goes_on_still (rest (answer op)) (bind (part_of k g) (λ r. Ret (handed u.op r))) is ∙ bound_on (part_of k g) goes;
        stands = λ ran acted. record {
          text = stands.text;
          program = stands.program ∙ sym (ap (λ (z : List ℕ → programs.P Reply). z stands.text) (call_same p));
          part = is;
          fits = subst (λ (z : List ℕ → programs.P Reply). TextFits z stands.text (part_of k g)) (sym (call_same p))
              (text_goes (whole_with sizes.version l.list l.call) stands.text (part_of l h) (part_of k g) answer stands.fits p.goes);
          room = λ x fits. stands.room x (p.room x fits);
        };
      }
    where
      bound_on : (q : Part) → at_end q ≡ false → at_end (bind q (λ r. Ret (handed u.op r))) ≡ false
      bound_on (Ret r) e = e
      bound_on (Do o m c) e = refl

  ended : (out : Option (Unit {0})) → PartEnds l h answer out k g → Ended sizes u (rest (answer op)) out k g
  ended out p =
      let is = plain_goes answer u.left op mark rest (part_of l h) (Ret p.ends) (λ r. Ret (handed u.op r)) asks_it stands.part p.goes in
      let next : AsksOrEnds sizes p.ends.carry (hears_in sizes (whole_with sizes.version l.list l.call (p.ends.answer.0)) p.ends.answer) out k g =
      subst (λ (s : Super). AsksOrEnds s p.ends.carry (hears_in s (whole_with s.version l.list l.call (p.ends.answer.0)) p.ends.answer) out k g) sized p.call in
      let same : hears_in sizes (whole_with sizes.version l.list l.call (p.ends.answer.0)) p.ends.answer ≡ u.rest (answer_by u.op p.ends.answer) =
      hears_same sizes (whole_with sizes.version l.list l.call) stands.text p.ends
      (text_goes (whole_with sizes.version l.list l.call) stands.text (part_of l h) (Ret p.ends) answer stands.fits p.goes)
      ∙ ap (λ (z : programs.P Reply). hears_in sizes z p.ends.answer) (sym stands.program) in
      record {
        end = handed u.op p.ends;
        is = plain_end (rest (answer op)) (handed u.op p.ends) is;
        text = p.ends.answer.0;
        answer = ap (answer_to (p.ends.answer.0) u.op) p.heard;
        room = stands.room k.heard p.room;
        next = subst (λ (z : programs.P Reply). AsksOrEnds sizes p.ends.carry z out k g) same next;
      }

  -- So far it is after a step, with the rest of the operation's program, if a part that goes on isn't at its end.
  pub went : (out : Option (Unit {0})) → LoweredTells l h answer out k g → (k.ended ≡ false → at_end (part_of k g) ≡ false)
      → Went sizes u (rest (answer op)) out k.ended k g
  went out tells goes = by out k.ended tells.goes goes
    where
      by : (out : Option (Unit {0})) (b : Bool) → GoesOrEnds l h answer out b k g → (b ≡ false → at_end (part_of k g) ≡ false)
          → Went sizes u (rest (answer op)) out b k g
      by None false t goes = went_on t (goes refl)
      by (Some end) false t goes = t
      by None true t goes = ended None t
      by (Some end) true t goes = ended (Some end) t
