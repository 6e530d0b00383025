-- What is in hand goes with the state after each operation.
use Rattle.fs_machine.proofs.Vocabulary.{◌≡◌, ◌≢◌, ℕ, List, [], Option, Some, None, IfSome, refl, sym, ap, ◌∙◌, subst, ◌⊎◌, inl, inr, ⊎_elim, GuardState, BufferState, Inode, State, LeavesAll, LeavesAllBut, HasNone, IsLocked, IsOwn, IsOwnInode, IsTied, LeavesTied, bytes_of, Hand, Place, First, Second, InodePlace, One, Two, AreOwn, HandFits, buffer_at, with_buffer, inode_at, with_aside, with_inode, reference_at, with_listed, with_reference, with_seated, with_txn, block_at, bytes_at, inode_in, no_inode, number_at, with_bytes, content_at, option_map, option_map_or, unwrap_or, MatchOption, IsSome, SeatState, seat_of, IsHeld, IsGuardOf}
use Rattle.fs_machine.specs.Hands.{with_content}

-- ---- places in general

abbrev Decided : Type 0 → Type 0
Decided K = (k l : K) → (k ≡ l) ⊎ (k ≢ l)

module _ {K V : Type 0} (name : V → ℕ) (Own : ℕ → GuardState V → State → Type 0) where
  -- nothing changes of these
  pub stay : (at next : K → Option (GuardState V)) (old new : State) → AreOwn at name Own old → ((l : K) → next l ≡ at l) → LeavesAll Own old new → AreOwn next name Own new
  stay at next old new a same rest = record {
    own = λ k g e. rest (name g.value) g (a.own k g (sym (same k) ∙ e));
    apart = λ k l g f e d named. a.apart k l g f (sym (same k) ∙ e) (sym (same l) ∙ d) named;
  }

  -- one more
  module _ (decided : Decided K) (k : K) (at next : K → Option (GuardState V)) (old new : State) (a : AreOwn at name Own old) (others : (l : K) → l ≢ k → next l ≡ at l) where
    pub took : (g : GuardState V) → next k ≡ Some g → Own (name g.value) g new → LeavesAll Own old new → HasNone (name g.value) Own old → AreOwn next name Own new
    took g is own rest none = record {
      own = λ l f e. ⊎_elim
          (λ (same : l ≡ k). (let e1 : g ≡ f = cc (is, e, same) in subst (λ (f : GuardState V). Own (name f.value) f new) e1 own))
          (λ (ne : l ≢ k). rest (name f.value) f (a.own l f (sym (others l ne) ∙ e)))
          (decided l k);
      apart = λ l m f h e d same. ⊎_elim
          (λ (l-is : l ≡ k). ⊎_elim
          (λ (m-is : m ≡ k). l-is ∙ sym m-is)
          (λ (ne : m ≢ k). (
          let e1 : g ≡ f = cc (is, e, l-is) in
          let clash : name h.value ≡ name g.value = sym same ∙ ap (λ (f : GuardState V). name f.value) (sym e1) in
          absurd (none (name h.value) h (a.own m h (sym (others m ne) ∙ d)) clash)))
          (decided m k))
          (λ (ne : l ≢ k). ⊎_elim
          (λ (m-is : m ≡ k). (
          let e1 : g ≡ h = cc (is, d, m-is) in
          let clash : name f.value ≡ name g.value = same ∙ ap (λ (f : GuardState V). name f.value) (sym e1) in
          absurd (none (name f.value) f (a.own l f (sym (others l ne) ∙ e)) clash)))
          (λ (ne2 : m ≢ k). a.apart l m f h (sym (others l ne) ∙ e) (sym (others m ne2) ∙ d) same)
          (decided m k))
          (decided l k);
    }

    -- the one there is changed, or gone
    module _ (g : GuardState V) (was : at k ≡ Some g) (rest : LeavesAllBut (name g.value) Own old new) where
      left-own : (l : K) → l ≢ k → (f : GuardState V) → at l ≡ Some f → Own (name f.value) f new
      left-own l ne f e = rest (name f.value) f (a.own l f e) (λ same. ne (a.apart l k f g e was same))

      pub gave : next k ≡ None → AreOwn next name Own new
      gave is = record {
        own = λ l f e. ⊎_elim
            (λ (same : l ≡ k). (let no : None ≡ Some f = cc (is, e, same) in absurd (cc no)))
            (λ (ne : l ≢ k). left-own l ne f (sym (others l ne) ∙ e))
            (decided l k);
        apart = λ l m f h e d same. ⊎_elim
            (λ (l-is : l ≡ k). (let no : None ≡ Some f = cc (is, e, l-is) in absurd (cc no)))
            (λ (ne : l ≢ k). ⊎_elim
            (λ (m-is : m ≡ k). (let no : None ≡ Some h = cc (is, d, m-is) in absurd (cc no)))
            (λ (ne2 : m ≢ k). a.apart l m f h (sym (others l ne) ∙ e) (sym (others m ne2) ∙ d) same)
            (decided m k))
            (decided l k);
      }

      pub changed : (h : GuardState V) → next k ≡ Some h → name h.value ≡ name g.value → Own (name h.value) h new → AreOwn next name Own new
      changed h is named own = record {
        own = λ l f e. ⊎_elim
            (λ (same : l ≡ k). (let e1 : h ≡ f = cc (is, e, same) in subst (λ (f : GuardState V). Own (name f.value) f new) e1 own))
            (λ (ne : l ≢ k). left-own l ne f (sym (others l ne) ∙ e))
            (decided l k);
        apart = λ l m f j e d same. ⊎_elim
            (λ (l-is : l ≡ k). ⊎_elim
            (λ (m-is : m ≡ k). l-is ∙ sym m-is)
            (λ (ne : m ≢ k). (
            let e1 : h ≡ f = cc (is, e, l-is) in
            l-is ∙ sym (a.apart m k j g (sym (others m ne) ∙ d) was (sym same ∙ ap (λ (f : GuardState V). name f.value) (sym e1) ∙ named))))
            (decided m k))
            (λ (ne : l ≢ k). ⊎_elim
            (λ (m-is : m ≡ k). (
            let e1 : h ≡ j = cc (is, d, m-is) in
            a.apart l k f g (sym (others l ne) ∙ e) was (same ∙ ap (λ (f : GuardState V). name f.value) (sym e1) ∙ named) ∙ sym m-is))
            (λ (ne2 : m ≢ k). a.apart l m f j (sym (others l ne) ∙ e) (sym (others m ne2) ∙ d) same)
            (decided m k))
            (decided l k);
      }

-- ---- the places of a hand

pub places : Decided Place
places First First = inl refl
places First Second = inr (λ e. absurd (cc e))
places Second First = inr (λ e. absurd (cc e))
places Second Second = inl refl

pub seats : Decided InodePlace
seats One One = inl refl
seats One Two = inr (λ e. absurd (cc e))
seats Two One = inr (λ e. absurd (cc e))
seats Two Two = inl refl

pub buffer-there : (p : Place) (o : Option (GuardState BufferState)) (h : Hand) → buffer_at p (with_buffer p o h) ≡ o
buffer-there First o h = refl
buffer-there Second o h = refl

pub buffer-elsewhere : (p : Place) (o : Option (GuardState BufferState)) (h : Hand) (q : Place) → q ≢ p → buffer_at q (with_buffer p o h) ≡ buffer_at q h
buffer-elsewhere First o h First ne = absurd (ne refl)
buffer-elsewhere First o h Second ne = refl
buffer-elsewhere Second o h First ne = refl
buffer-elsewhere Second o h Second ne = absurd (ne refl)

pub inode-there : (p : InodePlace) (o : Option (GuardState Inode)) (h : Hand) → inode_at p (with_inode p o h) ≡ o
inode-there One o h = refl
inode-there Two o h = refl

pub inode-elsewhere : (p : InodePlace) (o : Option (GuardState Inode)) (h : Hand) (q : InodePlace) → q ≢ p → inode_at q (with_inode p o h) ≡ inode_at q h
inode-elsewhere One o h One ne = absurd (ne refl)
inode-elsewhere One o h Two ne = refl
inode-elsewhere Two o h One ne = refl
inode-elsewhere Two o h Two ne = absurd (ne refl)

buffer-beside : (k : InodePlace) (o : Option (GuardState Inode)) (h : Hand) (q : Place) → buffer_at q (with_inode k o h) ≡ buffer_at q h
buffer-beside One o h First = refl
buffer-beside One o h Second = refl
buffer-beside Two o h First = refl
buffer-beside Two o h Second = refl

inode-beside : (p : Place) (o : Option (GuardState BufferState)) (h : Hand) (k : InodePlace) → inode_at k (with_buffer p o h) ≡ inode_at k h
inode-beside First o h One = refl
inode-beside First o h Two = refl
inode-beside Second o h One = refl
inode-beside Second o h Two = refl

txn-beside : (p : Place) (o : Option (GuardState BufferState)) (h : Hand) → (with_buffer p o h).txn ≡ h.txn
txn-beside First o h = refl
txn-beside Second o h = refl

txn-beside_inode : (k : InodePlace) (o : Option (GuardState Inode)) (h : Hand) → (with_inode k o h).txn ≡ h.txn
txn-beside_inode One o h = refl
txn-beside_inode Two o h = refl

-- ---- the hand after each operation

module _ (hart : ℕ) (old new : State) (h : Hand) (f : HandFits hart old h) where
  same-inodes : new.tables ≡ old.tables → LeavesAll (IsOwnInode hart) old new
  same-inodes e k g own = record { hand = own.hand; number = own.number; locked = subst (λ t. IsLocked g t) (sym e) own.locked }

  same-buffers : new.log ≡ old.log → LeavesAll (IsOwn hart) old new
  same-buffers e k g own = record { hand = own.hand; block = own.block; tied = subst (λ l. IsTied g l) (sym e) own.tied }

  -- a buffer at a place is changed, taken or given
  module _ (p : Place) (o : Option (GuardState BufferState)) (tables : new.tables ≡ old.tables) where
    with-new-buffer : AreOwn (λ q. buffer_at q (with_buffer p o h)) (λ v. v.block) (IsOwn hart) new → HandFits hart new (with_buffer p o h)
    with-new-buffer buffers = record {
      txn = subst (λ t. IfSome t (λ k. k ≡ hart)) (sym (txn-beside p o h)) f.txn;
      buffers = buffers;
      inodes = stay (λ v. v.number) (IsOwnInode hart) (λ k. inode_at k h) (λ k. inode_at k (with_buffer p o h)) old new f.inodes (inode-beside p o h) (same-inodes tables);
    }

  pub buffer-taken : (p : Place) (g : GuardState BufferState) → new.tables ≡ old.tables → IsOwn hart g.value.block g new → LeavesAll (IsOwn hart) old new → HasNone g.value.block (IsOwn hart) old → HandFits hart new (with_buffer p (Some g) h)
  buffer-taken p g tables own rest none =
      with-new-buffer p (Some g) tables
      (took (λ v. v.block) (IsOwn hart) places p (λ q. buffer_at q h) (λ q. buffer_at q (with_buffer p (Some g) h)) old new f.buffers (buffer-elsewhere p (Some g) h) g (buffer-there p (Some g) h) own rest none)

  pub buffer-given : (p : Place) (g : GuardState BufferState) → new.tables ≡ old.tables → buffer_at p h ≡ Some g → LeavesAllBut g.value.block (IsOwn hart) old new → HandFits hart new (with_buffer p None h)
  buffer-given p g tables was rest =
      with-new-buffer p None tables
      (gave (λ v. v.block) (IsOwn hart) places p (λ q. buffer_at q h) (λ q. buffer_at q (with_buffer p None h)) old new f.buffers (buffer-elsewhere p None h) g was rest (buffer-there p None h))

  pub buffer-changed : (p : Place) (g j : GuardState BufferState) → new.tables ≡ old.tables → buffer_at p h ≡ Some g → LeavesAllBut g.value.block (IsOwn hart) old new
      → j.value.block ≡ g.value.block → IsOwn hart j.value.block j new → HandFits hart new (with_buffer p (Some j) h)
  buffer-changed p g j tables was rest named own =
      with-new-buffer p (Some j) tables
      (changed (λ v. v.block) (IsOwn hart) places p (λ q. buffer_at q h) (λ q. buffer_at q (with_buffer p (Some j) h)) old new f.buffers (buffer-elsewhere p (Some j) h) g was rest j (buffer-there p (Some j) h) named own)

  -- nothing in hand changes
  pub hand-stays : LeavesAll (IsOwn hart) old new → LeavesAll (IsOwnInode hart) old new → HandFits hart new h
  hand-stays buffers inodes = record {
    txn = f.txn;
    buffers = stay (λ v. v.block) (IsOwn hart) (λ k. buffer_at k h) (λ k. buffer_at k h) old new f.buffers (λ q. refl) buffers;
    inodes = stay (λ v. v.number) (IsOwnInode hart) (λ k. inode_at k h) (λ k. inode_at k h) old new f.inodes (λ q. refl) inodes;
  }

-- ---- what is at a place

pub content-there : (p : Place) (g : GuardState BufferState) (h k : Hand) → k ≡ with_buffer p (Some g) h → content_at p k ≡ g.value.content
content-there p g h k e = ap (content_at p) e ∙ ap (λ (o : Option (GuardState BufferState)). option_map_or (λ (g : GuardState BufferState). g.value.content) o None) (buffer-there p (Some g) h)

pub block-there : (p : Place) (g : GuardState BufferState) (h : Hand) → buffer_at p h ≡ Some g → block_at p h ≡ g.value.block
block-there p g h e = ap (λ (o : Option (GuardState BufferState)). option_map_or (λ (g : GuardState BufferState). g.value.block) o 0) e

pub bytes-there : (p : Place) (g : GuardState BufferState) (h : Hand) → buffer_at p h ≡ Some g → bytes_at p h ≡ bytes_of g
bytes-there p g h e = ap (λ (o : Option (GuardState BufferState)). option_map_or bytes_of o []) e

-- ---- inodes, references and the transaction

reference-beside : (k : InodePlace) (r : Option ℕ) (h : Hand) (p : Place) → buffer_at p (with_reference k r h) ≡ buffer_at p h
reference-beside One r h First = refl
reference-beside One r h Second = refl
reference-beside Two r h First = refl
reference-beside Two r h Second = refl

reference-beside_inode : (k : InodePlace) (r : Option ℕ) (h : Hand) (l : InodePlace) → inode_at l (with_reference k r h) ≡ inode_at l h
reference-beside_inode One r h One = refl
reference-beside_inode One r h Two = refl
reference-beside_inode Two r h One = refl
reference-beside_inode Two r h Two = refl

reference-beside_txn : (k : InodePlace) (r : Option ℕ) (h : Hand) → (with_reference k r h).txn ≡ h.txn
reference-beside_txn One r h = refl
reference-beside_txn Two r h = refl

buffer-beside_txn : (t : Option ℕ) (h : Hand) (p : Place) → buffer_at p (with_txn t h) ≡ buffer_at p h
buffer-beside_txn t h First = refl
buffer-beside_txn t h Second = refl

buffer-beside_listed : (ns : List ℕ) (h : Hand) (p : Place) → buffer_at p (with_listed ns h) ≡ buffer_at p h
buffer-beside_listed ns h First = refl
buffer-beside_listed ns h Second = refl

inode-beside_listed : (ns : List ℕ) (h : Hand) (k : InodePlace) → inode_at k (with_listed ns h) ≡ inode_at k h
inode-beside_listed ns h One = refl
inode-beside_listed ns h Two = refl

buffer-beside_aside : (r : Option ℕ) (h : Hand) (p : Place) → buffer_at p (with_aside r h) ≡ buffer_at p h
buffer-beside_aside r h First = refl
buffer-beside_aside r h Second = refl

inode-beside_aside : (r : Option ℕ) (h : Hand) (k : InodePlace) → inode_at k (with_aside r h) ≡ inode_at k h
inode-beside_aside r h One = refl
inode-beside_aside r h Two = refl

inode-beside_txn : (t : Option ℕ) (h : Hand) (k : InodePlace) → inode_at k (with_txn t h) ≡ inode_at k h
inode-beside_txn t h One = refl
inode-beside_txn t h Two = refl

module _ (hart : ℕ) (s : State) (h : Hand) (f : HandFits hart s h) where
  pub refers : (k : InodePlace) (r : Option ℕ) → HandFits hart s (with_reference k r h)
  refers k r = record {
    txn = subst (λ t. IfSome t (λ k. k ≡ hart)) (sym (reference-beside_txn k r h)) f.txn;
    buffers = stay (λ v. v.block) (IsOwn hart) (λ q. buffer_at q h) (λ q. buffer_at q (with_reference k r h)) s s f.buffers (reference-beside k r h) (λ _ _ own. own);
    inodes = stay (λ v. v.number) (IsOwnInode hart) (λ q. inode_at q h) (λ q. inode_at q (with_reference k r h)) s s f.inodes (reference-beside_inode k r h) (λ _ _ own. own);
  }

  pub lists : (ns : List ℕ) → HandFits hart s (with_listed ns h)
  lists ns = record {
    txn = f.txn;
    buffers = stay (λ v. v.block) (IsOwn hart) (λ q. buffer_at q h) (λ q. buffer_at q (with_listed ns h)) s s f.buffers (buffer-beside_listed ns h) (λ _ _ own. own);
    inodes = stay (λ v. v.number) (IsOwnInode hart) (λ q. inode_at q h) (λ q. inode_at q (with_listed ns h)) s s f.inodes (inode-beside_listed ns h) (λ _ _ own. own);
  }

  pub puts-aside : (r : Option ℕ) → HandFits hart s (with_aside r h)
  puts-aside r = record {
    txn = f.txn;
    buffers = stay (λ v. v.block) (IsOwn hart) (λ q. buffer_at q h) (λ q. buffer_at q (with_aside r h)) s s f.buffers (buffer-beside_aside r h) (λ _ _ own. own);
    inodes = stay (λ v. v.number) (IsOwnInode hart) (λ q. inode_at q h) (λ q. inode_at q (with_aside r h)) s s f.inodes (inode-beside_aside r h) (λ _ _ own. own);
  }

  pub has-txn : (t : Option ℕ) → IfSome t (λ k. k ≡ hart) → HandFits hart s (with_txn t h)
  has-txn t is = record {
    txn = is;
    buffers = stay (λ v. v.block) (IsOwn hart) (λ q. buffer_at q h) (λ q. buffer_at q (with_txn t h)) s s f.buffers (buffer-beside_txn t h) (λ _ _ own. own);
    inodes = stay (λ v. v.number) (IsOwnInode hart) (λ q. inode_at q h) (λ q. inode_at q (with_txn t h)) s s f.inodes (inode-beside_txn t h) (λ _ _ own. own);
  }

-- what is aside is put into a seat
pub seats-aside : (hart : ℕ) (s : State) (h : Hand) → HandFits hart s h → (k : InodePlace) → HandFits hart s (with_seated k h)
seats-aside hart s h f k = refers hart s (with_aside None h) (puts-aside hart s h f None) k h.aside

module _ (hart : ℕ) (old new : State) (h : Hand) (f : HandFits hart old h) where
  -- an operation on the log that changes no buffer in hand, and one on the tables that changes no lock in hand
  pub log-stays : new.tables ≡ old.tables → LeavesAll (IsOwn hart) old new → HandFits hart new h
  log-stays tables rest = hand-stays hart old new h f rest (same-inodes hart old new h f tables)

  pub tables-stay : new.log ≡ old.log → LeavesAll (IsOwnInode hart) old new → HandFits hart new h
  tables-stay log rest = hand-stays hart old new h f (same-buffers hart old new h f log) rest

  module _ (k : InodePlace) (o : Option (GuardState Inode)) (log : new.log ≡ old.log) where
    with-new-inode : AreOwn (λ q. inode_at q (with_inode k o h)) (λ v. v.number) (IsOwnInode hart) new → HandFits hart new (with_inode k o h)
    with-new-inode inodes = record {
      txn = subst (λ t. IfSome t (λ k. k ≡ hart)) (sym (txn-beside_inode k o h)) f.txn;
      buffers = stay (λ v. v.block) (IsOwn hart) (λ q. buffer_at q h) (λ q. buffer_at q (with_inode k o h)) old new f.buffers (buffer-beside k o h) (same-buffers hart old new h f log);
      inodes = inodes;
    }

  pub inode-taken : (k : InodePlace) (g : GuardState Inode) → new.log ≡ old.log → IsOwnInode hart g.value.number g new → LeavesAll (IsOwnInode hart) old new → HasNone g.value.number (IsOwnInode hart) old → HandFits hart new (with_inode k (Some g) h)
  inode-taken k g log own rest none =
      with-new-inode k (Some g) log
      (took (λ v. v.number) (IsOwnInode hart) seats k (λ q. inode_at q h) (λ q. inode_at q (with_inode k (Some g) h)) old new f.inodes (inode-elsewhere k (Some g) h) g (inode-there k (Some g) h) own rest none)

  pub inode-given : (k : InodePlace) (g : GuardState Inode) → new.log ≡ old.log → inode_at k h ≡ Some g → LeavesAllBut g.value.number (IsOwnInode hart) old new → HandFits hart new (with_inode k None h)
  inode-given k g log was rest =
      with-new-inode k None log
      (gave (λ v. v.number) (IsOwnInode hart) seats k (λ q. inode_at q h) (λ q. inode_at q (with_inode k None h)) old new f.inodes (inode-elsewhere k None h) g was rest (inode-there k None h))

-- ---- what was taken from a place and put back there

pub reference-back : (k : InodePlace) (n : ℕ) (h : Hand) → reference_at k h ≡ Some n → with_reference k (Some n) (with_reference k None h) ≡ h
reference-back One n h e = ap (λ (o : Option ℕ). record h { to_one = o }) (sym e)
reference-back Two n h e = ap (λ (o : Option ℕ). record h { to_two = o }) (sym e)

pub buffer-back : (p : Place) (g : GuardState BufferState) (h : Hand) → buffer_at p h ≡ Some g → with_buffer p (Some g) (with_buffer p None h) ≡ h
buffer-back First g h e = ap (λ (o : Option (GuardState BufferState)). record h { first = o }) (sym e)
buffer-back Second g h e = ap (λ (o : Option (GuardState BufferState)). record h { second = o }) (sym e)

pub buffer-again : (p : Place) (o u : Option (GuardState BufferState)) (h : Hand) → with_buffer p o (with_buffer p u h) ≡ with_buffer p o h
buffer-again First o u h = refl
buffer-again Second o u h = refl

pub inode-in : (k : InodePlace) (g : GuardState Inode) (h : Hand) → inode_at k h ≡ Some g → inode_in k h ≡ g.value
inode-in k g h e = ap (λ (o : Option (GuardState Inode)). option_map_or (λ (g : GuardState Inode). g.value) o no_inode) e

pub number-there : (k : InodePlace) (n : ℕ) (h : Hand) → reference_at k h ≡ Some n → number_at k h ≡ n
number-there k n h e = ap (λ (o : Option ℕ). unwrap_or o 0) e

pub reference-there : (k : InodePlace) (r : Option ℕ) (h : Hand) → reference_at k (with_reference k r h) ≡ r
reference-there One r h = refl
reference-there Two r h = refl

pub reference-none : (k : InodePlace) (h : Hand) → reference_at k h ≡ None → h ≡ with_reference k None h
reference-none One h e = ap (λ (o : Option ℕ). record h { to_one = o }) e
reference-none Two h e = ap (λ (o : Option ℕ). record h { to_two = o }) e

pub aside-none : (h : Hand) → h.aside ≡ None → h ≡ with_aside None h
aside-none h e = ap (λ (o : Option ℕ). record h { aside = o }) e

pub seated-again : (k : InodePlace) (r : Option ℕ) (h : Hand) → with_seated k (with_reference k r h) ≡ with_seated k h
seated-again One r h = refl
seated-again Two r h = refl

pub seated-beside : (k : InodePlace) (h : Hand) → (with_seated k h).listed ≡ h.listed
seated-beside One h = refl
seated-beside Two h = refl

pub txn-back : (n : ℕ) (h : Hand) → h.txn ≡ Some n → with_txn (Some n) h ≡ h
txn-back n h e = ap (λ (o : Option ℕ). record h { txn = o }) (sym e)

-- ---- bytes prepared in a buffer

pub record IsPrepared (p : Place) (before : Hand) (bytes : List ℕ) (guard : GuardState BufferState) : Type 0 where
  pub was : GuardState BufferState
  pub there : buffer_at p before ≡ Some was
  pub is : guard ≡ with_content bytes was
  pub valid : IsSome was.value.content

pub prepared : (p : Place) (before h : Hand) (bytes : List ℕ) (guard : GuardState BufferState) → MatchOption (buffer_at p before) ⊥ (λ g. IsSome g.value.content) → h ≡ with_bytes p bytes before → buffer_at p h ≡ Some guard → IsPrepared p before bytes guard
prepared p before h bytes guard valid e is = at (buffer_at p before) refl valid (sym (ap (buffer_at p) e ∙ buffer-there p (option_map (with_content bytes) (buffer_at p before)) before) ∙ is)
  where
    at : (o : Option (GuardState BufferState)) → buffer_at p before ≡ o → MatchOption o ⊥ (λ g. IsSome g.value.content) → option_map (with_content bytes) o ≡ Some guard → IsPrepared p before bytes guard
    at None there valid e = absurd valid
    at (Some g) there valid e = (let same : with_content bytes g ≡ guard = cc e in record { was = g; there = there; is = sym same; valid = valid })

pub held-with : (rows : List SeatState) (g : GuardState BufferState) (bytes : List ℕ) → IsSome g.value.content → IsHeld rows g → IsHeld rows (with_content bytes g)
held-with rows g bytes valid held = at (seat_of g.value.block rows) held
  where
    at : (o : Option SeatState) → MatchOption o ⊥ (IsGuardOf g) → MatchOption o ⊥ (IsGuardOf (with_content bytes g))
    at None h = absurd h
    at (Some s) h = record { number = h.number; holder = h.holder; valid = h.valid ∙ valid }

-- ---- an operation of another hart

pub others-keep : (hart g : ℕ) (old new : State) (h : Hand) → g ≢ hart → LeavesTied hart old new → HandFits g old h → HandFits g new h
others-keep hart g old new h ne leaves f = record {
  txn = f.txn;
  buffers = stay (λ v. v.block) (IsOwn g) (λ p. buffer_at p h) (λ p. buffer_at p h) old new f.buffers (λ p. refl)
      (λ k b own. record { hand = own.hand; block = own.block; tied = leaves.buffers b (λ e. ne (sym own.hand ∙ e)) own.tied });
  inodes = stay (λ v. v.number) (IsOwnInode g) (λ p. inode_at p h) (λ p. inode_at p h) old new f.inodes (λ p. refl)
      (λ k b own. record { hand = own.hand; number = own.number; locked = leaves.inodes b (λ e. ne (sym own.hand ∙ e)) own.locked });
}

pub reference-again : (k : InodePlace) (r q : Option ℕ) (h : Hand) → with_reference k r (with_reference k q h) ≡ with_reference k r h
reference-again One r q h = refl
reference-again Two r q h = refl

-- where it is the only buffer in hand
pub only-buffer : (hart : ℕ) (old new : State) (h : Hand) → HandFits hart old h → (p : Place) (g : GuardState BufferState) → ((q : Place) → q ≢ p → buffer_at q h ≡ None) → IsOwn hart g.value.block g new → LeavesAll (IsOwnInode hart) old new → HandFits hart new (with_buffer p (Some g) h)
only-buffer hart old new h f p g alone own rest = record {
  txn = subst (λ t. IfSome t (λ k. k ≡ hart)) (sym (txn-beside p (Some g) h)) f.txn;
  buffers = record {
    own = λ q j e. ⊎_elim
        (λ (same : q ≡ p). (
        let e1 : g ≡ j = cc (buffer-there p (Some g) h, e, same) in
        subst (λ (j : GuardState BufferState). IsOwn hart j.value.block j new) e1 own))
        (λ (ne : q ≢ p). (let no : None ≡ Some j = sym (alone q ne) ∙ sym (buffer-elsewhere p (Some g) h q ne) ∙ e in absurd (cc no)))
        (places q p);
    apart = λ q r j i e d same. there q j e ∙ sym (there r i d);
  };
  inodes = stay (λ v. v.number) (IsOwnInode hart) (λ k. inode_at k h) (λ k. inode_at k (with_buffer p (Some g) h)) old new f.inodes (inode-beside p (Some g) h) rest;
}
  where
    there : (q : Place) (j : GuardState BufferState) → buffer_at q (with_buffer p (Some g) h) ≡ Some j → q ≡ p
    there q j e = ⊎_elim (λ (same : q ≡ p). same) (λ (ne : q ≢ p). (let no : None ≡ Some j = sym (alone q ne) ∙ sym (buffer-elsewhere p (Some g) h q ne) ∙ e in absurd (cc no))) (places q p)

pub no-buffer : (hart : ℕ) (old new : State) (h : Hand) → HandFits hart old h → (p : Place) → ((q : Place) → q ≢ p → buffer_at q h ≡ None) → LeavesAll (IsOwnInode hart) old new → HandFits hart new (with_buffer p None h)
no-buffer hart old new h f p alone rest = record {
  txn = subst (λ t. IfSome t (λ k. k ≡ hart)) (sym (txn-beside p None h)) f.txn;
  buffers = record { own = λ q j e. absurd (cc (sym (none q) ∙ e)); apart = λ q r j i e d same. absurd (cc (sym (none q) ∙ e)) };
  inodes = stay (λ v. v.number) (IsOwnInode hart) (λ k. inode_at k h) (λ k. inode_at k (with_buffer p None h)) old new f.inodes (inode-beside p None h) rest;
}
  where
    none : (q : Place) → buffer_at q (with_buffer p None h) ≡ None
    none q = ⊎_elim (λ (same : q ≡ p). subst (λ (q : Place). buffer_at q (with_buffer p None h) ≡ None) (sym same) (buffer-there p None h)) (λ (ne : q ≢ p). buffer-elsewhere p None h q ne ∙ alone q ne) (places q p)
