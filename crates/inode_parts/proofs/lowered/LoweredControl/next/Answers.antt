use Rattle.inode_parts.proofs.Lemmas.{◌≡◌, ℕ, Bool, List, [], ◌++◌, Option, Some, refl, sym, ap, subst, ◌∙◌, IfNone, Ret, Reply, Goes, answer_in, answer_to, hears, reply_to, stepped, Heard, call_in, first_in, second_in, text_in, whole_of, whole_with, with_text, IsOnWay, carry_in, FillsFrom, Having, Leaves, part_asked, part_left, part_left_after, FillsAs, PartReady, PartTold, ReadsInto, having, heard_if, IsPart, GoesOrLeaves, UnderWay, asks_on, ends_on, goes_within, begins_now, next_ends, next_runs, in_two, stands_of, text_stays, told_of, way_now, fills_now, fits_with, its_own, same_hears, handed, on_text, reads_now, reads_with, room_before, room_then, same_with, way_with}
use Rattle.inode_machine.specs.Parts as programs
use Rattle.inode_machine.specs.World as above
use Rattle.path_walk.specs.Asks.{asks, op_in}
use Rattle.inode_parts.proofs.lowered.LoweredControl.next.Goals as goal

-- ---- its part is not over yet

pub returns-else-part_next-clause-goes : goal.returns-else-part_next-clause-goes
returns-else-part_next-clause-goes c before ready after =
    let l = c.args.self.now in
    let did = c.part_next in
    let u = did.new.call in
    let q = did.new.part in
    let m = did.new.notes in
    let h = did.new.hand in
    let x = did.new.heard in
    let answer = answer_in (part_asked l.part) c.args.answer.now c.args.hand.now in
    let left = part_left (text_in l.call) l.notes l.part before in
    let went = subst (λ (o : Option Heard). Goes left answer (part_left_after (text_in u) m o q h)) (ap (λ (b : Bool). heard_if b x) c.if-part_next.false) (did.ensures.goes before ready.ready after) in
    subst (λ (p : List ℕ → programs.P Reply). Goes (with_text l.sizes left (whole_with l.sizes.version l.list l.call)) answer (with_text l.sizes (part_left (text_in u) m q h) p)) (same_with l.sizes.version l.list l.call u did.ensures.call)
    (goes_within l.sizes left (part_left (text_in u) m q h) (whole_with l.sizes.version l.list l.call) answer went)

pub returns-else-part_next-clause-tells : goal.returns-else-part_next-clause-tells
returns-else-part_next-clause-tells c before ready after =
    let l = c.args.self.now in
    let did = c.part_next in
    let u = did.new.call in
    let q = did.new.part in
    let m = did.new.notes in
    let h = did.new.hand in
    let x = did.new.heard in
    let answer = answer_in (part_asked l.part) c.args.answer.now c.args.hand.now in
    let left = part_left (text_in l.call) l.notes l.part before in
    let went = subst (λ (o : Option Heard). Goes left answer (part_left_after (text_in u) m o q h)) (ap (λ (b : Bool). heard_if b x) c.if-part_next.false) (did.ensures.goes before ready.ready after) in
    record {
      sizes = refl;
      goes = record {
        goes = went;
        call = sym (same_with l.sizes.version l.list l.call u did.ensures.call);
        room = λ x room. room_before l.sizes.version l.list l.call u x did.ensures.call room;
      };
    }

pub returns-else-part_next-clause-ready : goal.returns-else-part_next-clause-ready
returns-else-part_next-clause-ready c =
    let l = c.args.self.now in
    let came = c.requires.came in
    let ready = came.1 in
    let way = ready.way in
    let did = c.part_next in
    let u = did.new.call in
    let q = did.new.part in
    let x = did.new.heard in
    let t = having did.new.hand did.new.notes in
    let none = ap (λ (b : Bool). heard_if b x) c.if-part_next.false in
    let filled = did.ensures.call in
    let under = subst (λ (o : Option Heard). GoesOrLeaves l.sizes.version (text_in l.call) way.op way.start o q t) none (did.ensures.under l.sizes.version way.op way.start came.0 way.under ready.ready came.2) in
    let same : IsOnWay l.sizes.version (text_in l.call) (whole_of l.sizes.version l.list l.call) q t = record { op = way.op; start = way.start; asked = way.asked; runs = way.runs; under = under } in
    record {
      sized = ready.sized;
      fits = fits_with l.sizes.version l.list l.call u filled ready.fits;
      ready = subst (λ (o : Option Heard). IfNone o (PartReady q did.new.hand)) none did.ensures.ready;
      told = subst (λ (o : Option Heard). IfNone o (PartTold (first_in u) (second_in u) q)) none did.ensures.told;
      reads = λ is. reads_with l.sizes.version l.list l.call u filled (ready.reads (subst (λ (o : Option Heard). IfNone o (ReadsInto q → ReadsInto l.part)) none did.ensures.reads is));
      way = way_with l.sizes.version l.list l.call u q t filled same;
    }

-- ---- it is over

pub next-requires-clause-fits : goal.next-requires-clause-fits
next-requires-clause-fits c = let l = c.args.self.now in fits_with l.sizes.version l.list l.call c.part_next.new.call c.part_next.ensures.call c.requires.came.1.fits

pub next-requires-clause-count : goal.next-requires-clause-count
next-requires-clause-count c =
    let l = c.args.self.now in
    let did = c.part_next in
    let ready = c.requires.came.1 in
    let x = did.new.heard in
    let some = ap (λ (b : Bool). heard_if b x) c.if-part_next.true in
    room_then l.sizes.version l.list l.call did.new.call l.part (having c.requires.came.0 l.notes) x (heard_if did.result x) some did.ensures.call ready.way did.ensures.room

pub begin-requires : goal.begin-requires
begin-requires c =
    let l = c.args.self.now in
    let came = c.requires.came in
    let ready = came.1 in
    let did = c.part_next in
    let u = did.new.call in
    let x = did.new.heard in
    let s = having did.new.hand did.new.notes in
    let v = c.next.new.self in
    let ms = c.next.new.list in
    let some = ap (λ (b : Bool). heard_if b x) c.if-part_next.true in
    let leaves : (op : above.Op) (start : Having) → UnderWay l.sizes.version (text_in l.call) op start l.part (having came.0 l.notes) → Leaves l.sizes.version (text_in l.call) op (answer_to [] op x) start s = λ op start under.
    subst (λ (o : Option Heard). GoesOrLeaves l.sizes.version (text_in l.call) op start o did.new.part s) some (did.ensures.under l.sizes.version op start came.0 under ready.ready came.2) in
    let on : hears (text_in u) (whole_of l.sizes.version l.list u) x ≡ whole_of l.sizes.version ms v = (c.next.ensures.goes ∙ ap (λ (ended : Bool). stepped (whole_of l.sizes.version ms v) (call_in v) c.next.new.says ended) c.if-next.false) in
    let runs = next_runs l.sizes.version l.call u v l.list ms l.part (having came.0 l.notes) s x did.ensures.call ready.way leaves c.next.ensures.call on in
    let a = c.ask-ask.result in
    let fits = c.next.ensures.fits c.if-next.false in
    let named = c.ask-ask.ensures.named l.sizes.version ms fits in
    let asked = c.ask-ask.ensures.asks l.sizes.version ms fits in
    record {
      sized = ready.sized;
      begins = begins_now l.sizes.version v ms s a asked runs;
      stands = stands_of l.sizes.version ms v a fits named;
      told = told_of l.sizes.version v a named;
    }

pub returns-else-next-clause-goes : goal.returns-else-next-clause-goes
returns-else-next-clause-goes c before ready after =
    let l = c.args.self.now in
    let did = c.part_next in
    let u = did.new.call in
    let m = did.new.notes in
    let h = did.new.hand in
    let x = did.new.heard in
    let v = c.next.new.self in
    let ms = c.next.new.list in
    let filled = did.ensures.call in
    let path = text_in u in
    let answer = answer_in (part_asked l.part) c.args.answer.now c.args.hand.now in
    let left = part_left (text_in l.call) l.notes l.part before in
    let went = subst (λ (o : Option Heard). Goes left answer (part_left_after path m o did.new.part h)) (ap (λ (b : Bool). heard_if b x) c.if-part_next.true) (did.ensures.goes before ready.ready after) in
    let own : hears path (whole_with l.sizes.version l.list l.call path) x ≡ hears path (whole_of l.sizes.version l.list u) x = (λ i. hears path (same_with l.sizes.version l.list l.call u filled i path) x) ∙ (λ i. hears path (its_own l.sizes.version l.list u i) x) in
    let on : hears path (whole_of l.sizes.version l.list u) x ≡ whole_of l.sizes.version ms v = (c.next.ensures.goes ∙ ap (λ (ended : Bool). stepped (whole_of l.sizes.version ms v) (call_in v) c.next.new.says ended) c.if-next.false) in
    let a = c.ask-ask.result in
    let q = c.begin.new.self in
    let g = c.begin.new.hand in
    let stays = text_stays u v c.next.ensures.call in
    let read = in_two v in
    let fits = c.next.ensures.fits c.if-next.false in
    let is = subst (λ (t : List ℕ). IsPart l.sizes (carry_in t m h) (op_in t a) (part_left t m q g)) (read ∙ stays) c.begin.ensures.part in
    let fills = subst (λ (t : List ℕ). FillsAs a t (part_left t m q g)) read c.begin.ensures.fills in
    let asked = c.ask-ask.ensures.asks l.sizes.version ms fits in
    let same = on_text l.sizes ms v (part_left path m q g) (λ reads. subst (λ (t : List ℕ). FillsFrom (text_in v) (part_left t m q g)) stays (fills_now l.sizes.version ms v a (part_left (text_in v) m q g) asked fills reads)) in
    subst (λ (t : List ℕ). Goes (with_text l.sizes left (whole_with l.sizes.version l.list l.call)) answer (with_text l.sizes (part_left t m q g) (whole_with l.sizes.version ms v))) (sym stays)
    (asks_on l.sizes path m h left (whole_with l.sizes.version l.list l.call) x answer went (whole_of l.sizes.version ms v) (op_in path a) (part_left path m q g) (whole_with l.sizes.version ms v) (own ∙ on) (subst (λ (t : List ℕ). asks (whole_of l.sizes.version ms v) ≡ Some (op_in t a)) stays asked) is same)

pub returns-else-next-clause-tells : goal.returns-else-next-clause-tells
returns-else-next-clause-tells c before ready after =
    let l = c.args.self.now in
    let did = c.part_next in
    let u = did.new.call in
    let m = did.new.notes in
    let h = did.new.hand in
    let x = did.new.heard in
    let v = c.next.new.self in
    let ms = c.next.new.list in
    let filled = did.ensures.call in
    let path = text_in u in
    let answer = answer_in (part_asked l.part) c.args.answer.now c.args.hand.now in
    let left = part_left (text_in l.call) l.notes l.part before in
    let went = subst (λ (o : Option Heard). Goes left answer (part_left_after path m o did.new.part h)) (ap (λ (b : Bool). heard_if b x) c.if-part_next.true) (did.ensures.goes before ready.ready after) in
    let own : hears path (whole_with l.sizes.version l.list l.call path) x ≡ hears path (whole_of l.sizes.version l.list u) x = (λ i. hears path (same_with l.sizes.version l.list l.call u filled i path) x) ∙ (λ i. hears path (its_own l.sizes.version l.list u i) x) in
    let on : hears path (whole_of l.sizes.version l.list u) x ≡ whole_of l.sizes.version ms v = (c.next.ensures.goes ∙ ap (λ (ended : Bool). stepped (whole_of l.sizes.version ms v) (call_in v) c.next.new.says ended) c.if-next.false) in
    let a = c.ask-ask.result in
    let q = c.begin.new.self in
    let g = c.begin.new.hand in
    let stays = text_stays u v c.next.ensures.call in
    let read = in_two v in
    let is = subst (λ (t : List ℕ). IsPart l.sizes (carry_in t m h) (op_in t a) (part_left t m q g)) (read ∙ stays) c.begin.ensures.part in
    let fills = subst (λ (t : List ℕ). FillsAs a t (part_left t m q g)) read c.begin.ensures.fills in
    let asked = c.ask-ask.ensures.asks l.sizes.version ms (c.next.ensures.fits c.if-next.false) in
    record {
      sizes = refl;
      goes = record {
        ends = handed path m x h;
        goes = went;
        heard = refl;
        call = record {
          left = sym (same_hears l.sizes path (whole_with l.sizes.version l.list l.call path) x) ∙ own ∙ on;
          op = op_in path a;
          asked = subst (λ (t : List ℕ). asks (whole_of l.sizes.version ms v) ≡ Some (op_in t a)) stays asked;
          part = subst (λ (t : List ℕ). IsPart l.sizes (carry_in path m h) (op_in path a) (part_left t m q g)) (sym stays) is;
          fills = fills_now l.sizes.version ms v a (part_left (text_in v) m q g) asked fills;
        };
        room = room_before l.sizes.version l.list l.call u x filled (room_then l.sizes.version l.list l.call u l.part (having before l.notes) x (heard_if did.result x) (ap (λ (b : Bool). heard_if b x) c.if-part_next.true) filled ready.way did.ensures.room);
      };
    }

pub returns-else-next-clause-ready : goal.returns-else-next-clause-ready
returns-else-next-clause-ready c =
    let l = c.args.self.now in
    let came = c.requires.came in
    let ready = came.1 in
    let did = c.part_next in
    let u = did.new.call in
    let x = did.new.heard in
    let s = having did.new.hand did.new.notes in
    let v = c.next.new.self in
    let ms = c.next.new.list in
    let some = ap (λ (b : Bool). heard_if b x) c.if-part_next.true in
    let leaves : (op : above.Op) (start : Having) → UnderWay l.sizes.version (text_in l.call) op start l.part (having came.0 l.notes) → Leaves l.sizes.version (text_in l.call) op (answer_to [] op x) start s = λ op start under.
    subst (λ (o : Option Heard). GoesOrLeaves l.sizes.version (text_in l.call) op start o did.new.part s) some (did.ensures.under l.sizes.version op start came.0 under ready.ready came.2) in
    let on : hears (text_in u) (whole_of l.sizes.version l.list u) x ≡ whole_of l.sizes.version ms v = (c.next.ensures.goes ∙ ap (λ (ended : Bool). stepped (whole_of l.sizes.version ms v) (call_in v) c.next.new.says ended) c.if-next.false) in
    let runs = next_runs l.sizes.version l.call u v l.list ms l.part (having came.0 l.notes) s x did.ensures.call ready.way leaves c.next.ensures.call on in
    let a = c.ask-ask.result in
    let fits = c.next.ensures.fits c.if-next.false in
    let named = c.ask-ask.ensures.named l.sizes.version ms fits in
    let asked = c.ask-ask.ensures.asks l.sizes.version ms fits in
    let q = c.begin.new.self in
    let t = having c.begin.new.hand did.new.notes in
    record {
      sized = ready.sized;
      fits = fits;
      ready = c.begin.ensures.ready;
      told = c.begin.ensures.told;
      reads = reads_now l.sizes.version (first_in v ++ second_in v) v a s t q named c.begin.ensures.under;
      way = way_now l.sizes.version v ms s a asked runs q t c.begin.ensures.under;
    }

pub returns-then-next-clause-goes : goal.returns-then-next-clause-goes
returns-then-next-clause-goes c before ready after =
    let l = c.args.self.now in
    let did = c.part_next in
    let u = did.new.call in
    let m = did.new.notes in
    let h = did.new.hand in
    let x = did.new.heard in
    let v = c.next.new.self in
    let ms = c.next.new.list in
    let filled = did.ensures.call in
    let path = text_in u in
    let answer = answer_in (part_asked l.part) c.args.answer.now c.args.hand.now in
    let left = part_left (text_in l.call) l.notes l.part before in
    let went = subst (λ (o : Option Heard). Goes left answer (part_left_after path m o did.new.part h)) (ap (λ (b : Bool). heard_if b x) c.if-part_next.true) (did.ensures.goes before ready.ready after) in
    let own : hears path (whole_with l.sizes.version l.list l.call path) x ≡ hears path (whole_of l.sizes.version l.list u) x = (λ i. hears path (same_with l.sizes.version l.list l.call u filled i path) x) ∙ (λ i. hears path (its_own l.sizes.version l.list u i) x) in
    let r = reply_to (call_in v) c.next.new.says in
    let on : hears path (whole_of l.sizes.version l.list u) x ≡ Ret r = (c.next.ensures.goes ∙ ap (λ (ended : Bool). stepped (whole_of l.sizes.version ms v) (call_in v) c.next.new.says ended) c.if-next.true) in
    ends_on l.sizes path m h left (whole_with l.sizes.version l.list l.call) x answer went r (own ∙ on)

pub returns-then-next-clause-ends : goal.returns-then-next-clause-ends
returns-then-next-clause-ends c =
    let l = c.args.self.now in
    let came = c.requires.came in
    let ready = came.1 in
    let did = c.part_next in
    let u = did.new.call in
    let x = did.new.heard in
    let s = having did.new.hand did.new.notes in
    let v = c.next.new.self in
    let ms = c.next.new.list in
    let some = ap (λ (b : Bool). heard_if b x) c.if-part_next.true in
    let leaves : (op : above.Op) (start : Having) → UnderWay l.sizes.version (text_in l.call) op start l.part (having came.0 l.notes) → Leaves l.sizes.version (text_in l.call) op (answer_to [] op x) start s = λ op start under.
    subst (λ (o : Option Heard). GoesOrLeaves l.sizes.version (text_in l.call) op start o did.new.part s) some (did.ensures.under l.sizes.version op start came.0 under ready.ready came.2) in
    next_ends l.sizes.version l.call u v l.list ms l.part (having came.0 l.notes) s x did.ensures.call ready.way leaves (reply_to (call_in v) c.next.new.says)
    (c.next.ensures.goes ∙ ap (λ (ended : Bool). stepped (whole_of l.sizes.version ms v) (call_in v) c.next.new.says ended) c.if-next.true)

pub returns-then-next-clause-tells : goal.returns-then-next-clause-tells
returns-then-next-clause-tells c before ready after =
    let l = c.args.self.now in
    let did = c.part_next in
    let u = did.new.call in
    let m = did.new.notes in
    let h = did.new.hand in
    let x = did.new.heard in
    let v = c.next.new.self in
    let ms = c.next.new.list in
    let filled = did.ensures.call in
    let path = text_in u in
    let answer = answer_in (part_asked l.part) c.args.answer.now c.args.hand.now in
    let left = part_left (text_in l.call) l.notes l.part before in
    let went = subst (λ (o : Option Heard). Goes left answer (part_left_after path m o did.new.part h)) (ap (λ (b : Bool). heard_if b x) c.if-part_next.true) (did.ensures.goes before ready.ready after) in
    let own : hears path (whole_with l.sizes.version l.list l.call path) x ≡ hears path (whole_of l.sizes.version l.list u) x = (λ i. hears path (same_with l.sizes.version l.list l.call u filled i path) x) ∙ (λ i. hears path (its_own l.sizes.version l.list u i) x) in
    let on : hears path (whole_of l.sizes.version l.list u) x ≡ Ret (reply_to (call_in v) c.next.new.says) = (c.next.ensures.goes ∙ ap (λ (ended : Bool). stepped (whole_of l.sizes.version ms v) (call_in v) c.next.new.says ended) c.if-next.true) in
    record {
      sizes = refl;
      goes = record {
        ends = handed path m x h;
        goes = went;
        heard = refl;
        call = sym (same_hears l.sizes path (whole_with l.sizes.version l.list l.call path) x) ∙ own ∙ on;
        room = room_before l.sizes.version l.list l.call u x filled (room_then l.sizes.version l.list l.call u l.part (having before l.notes) x (heard_if did.result x) (ap (λ (b : Bool). heard_if b x) c.if-part_next.true) filled ready.way did.ensures.room);
      };
    }
