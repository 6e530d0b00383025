-- The text of a call, into which a read's part comes.
use Rattle.inode_parts.proofs.Vocabulary.{◌≡◌, ℕ, List, ◌++◌, length, take, drop, IfSome, Option, Some, refl, sym, ap, subst, ◌∙◌, inl, inr, ◌<◌, ◌≤◌, ◌^◌, drop-append_seam, take-append_seam, Super, count_in, read_on, read_reply, say, LocksIt, asks, hears, op_in, read_of, HasRoomFor, WholeAsks, WholeFits, text_in, whole_of, Ask, Heard, Whole, whole_with, with_text, FillsOrStays, IsFilled, IsOnWay, IsReading, BeginsWith, FillsFrom, Having, Runs, FillsAs, ReadsInto, hears_in, lowered, with_part, Part, UnderWay, InodePart, Version}
use Rattle.plain_tree.specs.declared.call.Call.TheVariants as calls
use Rattle.inode_machine.specs.World as above
use Rattle.path_walk.specs.declared.asks.Ask.TheVariants as ask
use Rattle.whole_calls.specs.declared.reading.Read.TheVariants as reading
use Rattle.whole_calls.specs.declared.whole.Whole.TheVariants as whole
use Rattle.inode_parts.specs.declared.part.InodePart.TheVariants as part

-- ---- what is left, by the text that a part hands over

-- the reply has what was read, and after it what was there
reply_so : (fd : ℕ) (text b : List ℕ) → let new : List ℕ = b ++ drop (length b) text in read_reply fd text (take (length b) new) ≡ read_reply fd new (take (length b) new)
reply_so fd text b =
    let new : List ℕ = b ++ drop (length b) text in
    let read : take (length b) new ≡ b = take-append_seam b (drop (length b) text) in
    let behind : drop (length b) new ≡ drop (length b) text = drop-append_seam b (drop (length b) text) in
    ap (read_reply fd text) read ∙ (λ i. record (read_reply fd text b) { call = calls.Read fd (b ++ sym behind i) }) ∙ ap (read_reply fd new) (sym read)

pub on_text : (sizes : Super) (ns : List ℕ) (w : Whole) (q : Part) → (IsReading w → FillsFrom (text_in w) q) → with_part sizes q (whole_of sizes.version ns w) ≡ with_text sizes q (whole_with sizes.version ns w)
on_text sizes ns (whole.Read fd buf (reading.Part n offset)) q fills =
    fills tt (λ r. lowered sizes r.carry (hears_in sizes (read_of fd buf.items (reading.Part n offset)) r.answer)) (λ r. lowered sizes r.carry (hears_in sizes (read_of fd r.answer.0 (reading.Part n offset)) r.answer))
    (λ b c i. lowered sizes c (say (reply_so fd buf.items b i)))
on_text sizes ns w q fills = refl

-- it has its own text
pub its_own : (version : Version) (ns : List ℕ) (w : Whole) → whole_with version ns w (text_in w) ≡ whole_of version ns w
its_own version ns (whole.Read fd buf (reading.Part n offset)) = refl
its_own version ns w = refl

-- ---- a read alone asks to read

fills_asked : (text : List ℕ) (a : Ask) (q : Part) (fd n offset count : ℕ) → op_in text a ≡ above.ReadFile fd n offset count → FillsAs a text q → FillsFrom text q
fills_asked text (ask.ReadFile f i at k) q fd n offset count e fills = fills
fills_asked text a q fd n offset count e fills = absurd (cc e)

pub fills_now : (version : Version) (ns : List ℕ) (w : Whole) (a : Ask) (q : Part) → asks (whole_of version ns w) ≡ Some (op_in (text_in w) a) → FillsAs a (text_in w) q → IsReading w → FillsFrom (text_in w) q
fills_now version ns (whole.Read fd buf (reading.Part n offset)) a q asked fills is = fills_asked buf.items a q fd n offset (length buf.items) (let e : above.ReadFile fd n offset (length buf.items) ≡ op_in buf.items a = cc in sym e) fills
fills_now version ns w a q asked fills is = absurd is

reads_alone : (version : Version) (w : Whole) (fd n offset count : ℕ) → WholeAsks version w (ask.ReadFile fd n offset count) → IsReading w
reads_alone version (whole.Read fd buf (reading.Part n offset)) f i at count named = tt
reads_alone version (whole.Link old new c) f i at count named = absurd named.0
reads_alone version w f i at count named = absurd named

asked_reads : (version : Version) (path : List ℕ) (w : Whole) (a : Ask) (s t : Having) (q : InodePart) → WholeAsks version w a → UnderWay version path (op_in path a) s q t → ReadsInto q → IsReading w
asked_reads version path w (ask.ReadFile fd n offset count) s t q named under is = reads_alone version w fd n offset count named
asked_reads version path w a s t (part.ReadFile p) named under is = absurd under.0
asked_reads version path w a s t q named under is = absurd is

pub reads_now : (version : Version) (path : List ℕ) (w : Whole) (a : Ask) (s t : Having) (q : InodePart) → WholeAsks version w a → UnderWay version path (op_in path a) s q t → ReadsInto q → IsReading w
reads_now version path w a s t q named under is = asked_reads version path w a s t q named under is

-- while it is to read, its part does
reads_so : (version : Version) (path : List ℕ) (fd n offset count : ℕ) (s t : Having) (q : InodePart) → UnderWay version path (above.ReadFile fd n offset count) s q t → ReadsInto q
reads_so version path fd n offset count s t (part.ReadFile p) under = tt
reads_so version path fd n offset count s t q under = absurd under.0

part_reads : (version : Version) (ns : List ℕ) (w : Whole) (q : InodePart) (t : Having) → IsOnWay version (text_in w) (whole_of version ns w) q t → IsReading w → ReadsInto q
part_reads version ns (whole.Read fd buf (reading.Part n offset)) q t way is =
    let e : above.ReadFile fd n offset (length buf.items) ≡ way.op = let asked = way.asked in cc in
    reads_so version buf.items fd n offset (length buf.items) way.start t q (subst (λ (op : above.Op). UnderWay version buf.items op way.start q t) (sym e) way.under)
part_reads version ns w q t way is = absurd is

-- ---- a buffer that was filled

pub filled_with : (version : Version) (ns : List ℕ) (w v : Whole) → IsFilled w v → whole_with version ns w ≡ whole_with version ns v
filled_with version ns (whole.Read fd buf (reading.Part n offset)) (whole.Read gd new (reading.Part k at)) filled = λ i text. read_of (sym filled.0 i) text (reading.Part (sym filled.1 i) (sym filled.2 i))
filled_with version ns w v filled = absurd filled

pub filled_fits : (version : Version) (ns : List ℕ) (w v : Whole) → IsFilled w v → WholeFits version ns w → WholeFits version ns v
filled_fits version ns (whole.Read fd buf (reading.Part n offset)) (whole.Read gd new (reading.Part k at)) filled fits = (subst (λ (k : ℕ). k < 2 ^ 31) (sym filled.3) fits.0, tt)
filled_fits version ns w v filled fits = absurd filled

pub filled_reads : (w v : Whole) → IsFilled w v → IsReading v
filled_reads (whole.Read fd buf (reading.Part n offset)) (whole.Read gd new (reading.Part k at)) filled = tt
filled_reads w v filled = absurd filled

was_reading : (w v : Whole) → IsFilled w v → IsReading w
was_reading (whole.Read fd buf (reading.Part n offset)) v filled = tt
was_reading w v filled = absurd filled

filled_room : (w v : Whole) (x : Heard) → IsFilled w v → HasRoomFor x v → HasRoomFor x w
filled_room (whole.Read fd buf (reading.Part n offset)) (whole.Read gd new (reading.Part k at)) x filled room = subst (λ (size : ℕ). count_in x ≤ size) filled.3 room
filled_room w v x filled room = absurd filled

filled_runs : (version : Version) (ns : List ℕ) (w v : Whole) (x : Heard) (t : Having) → IsFilled w v → Runs version (text_in w) (BeginsWith version (text_in w)) (hears (text_in v) (whole_of version ns w) x) t → Runs version (text_in v) (BeginsWith version (text_in v)) (hears (text_in v) (whole_of version ns v) x) t
unfolding Runs
filled_runs version ns (whole.Read fd buf (reading.Part n offset)) (whole.Read gd new (reading.Part k at)) x t filled runs = (runs.0, λ a u left. runs.1 a u left)
filled_runs version ns w v x t filled runs = absurd filled

-- .. is on its way as before
under_same : (version : Version) (path new : List ℕ) (fd n offset count : ℕ) (op : above.Op) (s t : Having) (q : InodePart) → above.ReadFile fd n offset count ≡ op → UnderWay version path op s q t → UnderWay version new op s q t
under_same version path new fd n offset count op s t q e under =
    subst (λ (op : above.Op). UnderWay version path op s q t → UnderWay version new op s q t) e (at q) under
  where
    at : (q : InodePart) → UnderWay version path (above.ReadFile fd n offset count) s q t → UnderWay version new (above.ReadFile fd n offset count) s q t
    at (part.One x) under = under
    at (part.ReadFile p) under = under
    at q under = absurd under.0

same_read : (version : Version) (fd n offset : ℕ) (old new : List ℕ) (q : InodePart) (t : Having) → length new ≡ length old → IsOnWay version old (read_on fd old (LocksIt n offset)) q t → IsOnWay version new (read_on fd new (LocksIt n offset)) q t
unfolding Runs
same_read version fd n offset old new q t same way =
    let e : above.ReadFile fd n offset (length old) ≡ way.op = let asked = way.asked in cc in
    record {
      op = way.op;
      start = way.start;
      asked = ap (λ (count : ℕ). Some (above.ReadFile fd n offset count)) same ∙ way.asked;
      runs = (way.runs.0, λ a u leaves. ((way.runs.1 a u leaves).0, λ b v left. (way.runs.1 a u leaves).1 b v left));
      under = under_same version old new fd n offset (length old) way.op way.start t q e way.under;
    }

pub filled_way : (version : Version) (ns : List ℕ) (w v : Whole) (q : InodePart) (t : Having) → IsFilled w v → IsOnWay version (text_in w) (whole_of version ns w) q t → IsOnWay version (text_in v) (whole_of version ns v) q t
filled_way version ns (whole.Read fd buf (reading.Part n offset)) (whole.Read gd new (reading.Part k at)) q t filled way =
    subst (λ (fd : ℕ). IsOnWay version new.items (read_on fd new.items (LocksIt k at)) q t) (sym filled.0)
    (subst (λ (n : ℕ). IsOnWay version new.items (read_on fd new.items (LocksIt n at)) q t) (sym filled.1)
    (subst (λ (offset : ℕ). IsOnWay version new.items (read_on fd new.items (LocksIt n offset)) q t) (sym filled.2)
    (same_read version fd n offset buf.items new.items q t filled.3 way)))
filled_way version ns w v q t filled way = absurd filled

-- ---- a call whose part went on

module _ (version : Version) (ns : List ℕ) (w u : Whole) where
  pub same_with : FillsOrStays w u → whole_with version ns w ≡ whole_with version ns u
  same_with (inl e) = ap (whole_with version ns) (sym e)
  same_with (inr filled) = filled_with version ns w u filled

  pub fits_with : FillsOrStays w u → WholeFits version ns w → WholeFits version ns u
  fits_with (inl e) fits = subst (λ (w : Whole). WholeFits version ns w) (sym e) fits
  fits_with (inr filled) fits = filled_fits version ns w u filled fits

  pub reads_with : FillsOrStays w u → IsReading w → IsReading u
  reads_with (inl e) is = subst IsReading (sym e) is
  reads_with (inr filled) is = filled_reads w u filled

  read_before : FillsOrStays w u → IsReading u → IsReading w
  read_before (inl e) is = subst IsReading e is
  read_before (inr filled) is = was_reading w u filled

  -- as much has room before as after
  pub room_before : (x : Heard) → FillsOrStays w u → HasRoomFor x u → HasRoomFor x w
  room_before x (inl e) room = subst (HasRoomFor x) e room
  room_before x (inr filled) room = filled_room w u x filled room

  pub way_with : (q : InodePart) (t : Having) → FillsOrStays w u → IsOnWay version (text_in w) (whole_of version ns w) q t → IsOnWay version (text_in u) (whole_of version ns u) q t
  way_with q t (inl e) way = subst (λ (w : Whole). IsOnWay version (text_in w) (whole_of version ns w) q t) (sym e) way
  way_with q t (inr filled) way = filled_way version ns w u q t filled way

  -- what it hears then
  pub heard_runs : (x : Heard) (t : Having) → FillsOrStays w u → Runs version (text_in w) (BeginsWith version (text_in w)) (hears (text_in u) (whole_of version ns w) x) t → Runs version (text_in u) (BeginsWith version (text_in u)) (hears (text_in u) (whole_of version ns u) x) t
  heard_runs x t (inl e) runs = subst (λ (v : Whole). Runs version (text_in v) (BeginsWith version (text_in v)) (hears (text_in u) (whole_of version ns v) x) t) (sym e) runs
  heard_runs x t (inr filled) runs = filled_runs version ns w u x t filled runs

-- there is room for what it read
room_now : (w : Whole) (x : Heard) → (IsReading w → HasRoomFor x w) → HasRoomFor x w
room_now (whole.Read fd buf (reading.Part n offset)) x room = room tt
room_now w x room = tt

-- .. as its part ends
pub room_then : (version : Version) (ns : List ℕ) (w u : Whole) (q : InodePart) (t : Having) (x : Heard) (heard : Option Heard) → heard ≡ Some x → FillsOrStays w u → IsOnWay version (text_in w) (whole_of version ns w) q t → (ReadsInto q → IfSome heard (λ x. HasRoomFor x u)) → HasRoomFor x u
room_then version ns w u q t x heard some filled way room = room_now u x (λ is. subst (λ (o : Option Heard). IfSome o (λ x. HasRoomFor x u)) some (room (part_reads version ns w q t way (read_before version ns w u filled is))))
