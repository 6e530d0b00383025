-- Write: what a piece does to a tree, and how a descriptor's offset and its inode change.
use Rattle.inode_machine.proofs.Vocabulary.{◌≡◌, inl, inr, ℕ, ◌+◌, ◌<◌, ◌≤◌, true, false, nat_lt, List, [], ◌∷◌, ◌++◌, take, length, Option, Some, None, refl, sym, ◌∙◌, ap, subst, arith, if◌then◌else◌, Bool, nat_tests, append-nil, take-append-drop, length-take, Cause, BadDescriptor, BadMode, BadOffset, TooBig, Node, NodeKind, Directory, File, Device, OpenFile, WritePart, Done, hart_count, largest_size, Name, Tree, put, and_then, is_directory, is_live, settle, node_or, node_at, file_at, refusal_with, refusal_by, effect_with, effect_by, answer_with, answer_by, place_of, IsInPlace, with_nodes, written, written_kind, wrote, write_kind, part_refusal, IsWellFormed, either, same_or, put_same, put_other, put_self, well_content, well_same, type_written, written_dir, InodeType, no_driver_for, type_of, type_of_kind, mode_refusal, with_bytes, write_refused, Entry, World, with_open, NamesLess, named_less, settle_nodes, settle_or, file_settled}
use Rattle.std.proofs.Common.{drop}
use Rattle.image_versions.specs.declared.version.Version.{Version}
use Rattle.plain_tree.specs.Steps.{moved}
use Rattle.inode_machine.proofs.Basics.{below_is, Refused}
use Rattle.inode_machine.proofs.Readings.{offset_on}

-- Refusals.

write_none : (version : Version) (t : Tree) (h fd : ℕ) (b : List ℕ) (res : Option ℕ) (par : Option (ℕ × Name)) → file_at t h fd ≡ None → refusal_with version t h (WritePart fd b) res par ≡ Some BadDescriptor
unfolding refusal_by
write_none version t h fd b res par e = rw e refl

write_mode : (version : Version) (t : Tree) (h fd : ℕ) (b : List ℕ) (f : OpenFile) (res : Option ℕ) (par : Option (ℕ × Name)) → file_at t h fd ≡ Some f → f.writable ≡ false → refusal_with version t h (WritePart fd b) res par ≡ Some BadMode
unfolding refusal_by
write_mode version t h fd b f res par e r = rw (e, r) refl

pub write_by_kind : (version : Version) (t : Tree) (h fd : ℕ) (b : List ℕ) (f : OpenFile) (k : Option Cause) (res : Option ℕ) (par : Option (ℕ × Name)) → file_at t h fd ≡ Some f → f.writable ≡ true → write_kind version (node_at t f.number).kind f.offset b ≡ k → refusal_with version t h (WritePart fd b) res par ≡ k
unfolding refusal_by
write_by_kind version t h fd b f k res par e r q = rw (e, r) q

pub write_place : (t : Tree) (h fd : ℕ) (b : List ℕ) → h < hart_count → IsInPlace t h (WritePart fd b)
unfolding place_of
write_place t h fd b lt = rw (below_is h hart_count lt) refl

pub write_refused_at : (version : Version) (h fd : ℕ) (b : List ℕ) (c : Cause) (v : World) → h < hart_count → ((res : Option ℕ) (par : Option (ℕ × Name)) → refusal_with version v.all h (WritePart fd b) res par ≡ Some c) → ((res : Option ℕ) (par : Option (ℕ × Name)) → refusal_with version (settle v.all) h (WritePart fd b) res par ≡ Some c) → Refused version h (WritePart fd b) c v
write_refused_at version h fd b c v lt now then_ = record {
  follows = refl;
  path = refl;
  now = now;
  then_ = then_;
  found = λ res. refl;
  stays = refl;
  place = write_place (settle v.all) h fd b lt;
  makes = λ q. refl;
  keeps = refl;
  inherits = λ g q. absurd cc;
}

pub write_refused_none : (version : Version) (h fd : ℕ) (b : List ℕ) (v : World) → h < hart_count → file_at v.all h fd ≡ None → Refused version h (WritePart fd b) BadDescriptor v
write_refused_none version h fd b v lt e = write_refused_at version h fd b BadDescriptor v lt (λ res par. write_none version v.all h fd b res par e) (λ res par. write_none version (settle v.all) h fd b res par (file_settled v.all h fd ∙ e))

-- a device takes no piece, and anything else an empty one
device_stops : (version : Version) (x : Option Node) (s : InodeType) (offset : ℕ) (b : List ℕ) (c : Cause) → type_of x ≡ Some s → no_driver_for s ≡ Some c → write_kind version (node_or x).kind offset b ≡ Some c
device_stops version None s offset b c e q = absurd cc
device_stops version (Some v) s offset b c e q = let a : type_of_kind v.kind ≡ s = cc in by_kind v.kind s a q
  where
    by_kind : (k : NodeKind) (s : InodeType) → type_of_kind k ≡ s → no_driver_for s ≡ Some c → write_kind version k offset b ≡ Some c
    by_kind (Directory slots) s e q = absurd (let a : None ≡ Some c = ap (λ (z : InodeType). no_driver_for z) e ∙ q in cc)
    by_kind (File bytes) s e q = absurd (let a : None ≡ Some c = ap (λ (z : InodeType). no_driver_for z) e ∙ q in cc)
    by_kind (Device major minor size) s e q = ap (λ (z : InodeType). no_driver_for z) e ∙ q

empty_goes : (version : Version) (x : Option Node) (s : InodeType) (offset : ℕ) → type_of x ≡ Some s → no_driver_for s ≡ None → write_kind version (node_or x).kind offset [] ≡ None
empty_goes version None s offset e q = absurd cc
empty_goes version (Some v) s offset e q = let a : type_of_kind v.kind ≡ s = cc in by_kind v.kind s a q
  where
    by_kind : (k : NodeKind) (s : InodeType) → type_of_kind k ≡ s → no_driver_for s ≡ None → write_kind version k offset [] ≡ None
    by_kind (Directory slots) s e q = refl
    by_kind (File bytes) s e q = refl
    by_kind (Device major minor size) s e q = ap (λ (z : InodeType). no_driver_for z) e ∙ q

-- what the table refuses the tree does, whatever the piece
pub write_stops : (version : Version) (t : Tree) (h fd : ℕ) (b : List ℕ) (e : Entry) (c : Cause) (res : Option ℕ) (par : Option (ℕ × Name)) → file_at t h fd ≡ Some e.file → type_of (t.nodes e.file.number) ≡ Some e.inode_type → write_refused (Some e) ≡ Some c → refusal_with version t h (WritePart fd b) res par ≡ Some c
write_stops version t h fd b e c res par file inode_type stops = go e.file.writable refl
  where
    go : (w : Bool) → e.file.writable ≡ w → refusal_with version t h (WritePart fd b) res par ≡ Some c
    go false q = write_mode version t h fd b e.file res par file q ∙ (λ i. mode_refusal (sym q i) e.inode_type) ∙ stops
    go true q = write_by_kind version t h fd b e.file (Some c) res par file q (device_stops version (t.nodes e.file.number) e.inode_type e.file.offset b c inode_type ((λ i. mode_refusal (sym q i) e.inode_type) ∙ stops))

pub empty_piece_goes : (version : Version) (t : Tree) (h fd : ℕ) (e : Entry) (res : Option ℕ) (par : Option (ℕ × Name)) → file_at t h fd ≡ Some e.file → type_of (t.nodes e.file.number) ≡ Some e.inode_type → write_refused (Some e) ≡ None → refusal_with version t h (WritePart fd []) res par ≡ None
empty_piece_goes version t h fd e res par file inode_type goes = go e.file.writable refl
  where
    go : (w : Bool) → e.file.writable ≡ w → refusal_with version t h (WritePart fd []) res par ≡ None
    go false q = absurd (let a : Some BadMode ≡ None = (λ i. mode_refusal (sym q i) e.inode_type) ∙ goes in cc)
    go true q = write_by_kind version t h fd [] e.file None res par file q (empty_goes version (t.nodes e.file.number) e.inode_type e.file.offset inode_type ((λ i. mode_refusal (sym q i) e.inode_type) ∙ goes))

-- who may write so many bytes may write fewer

take_less : (k : ℕ) (b : List ℕ) → length (take k b) ≤ length b
take_less k b = grind (arith, length-take)

reaches : (limit from a b : ℕ) → b ≤ a → nat_lt limit (from + b) ≡ true → nat_lt limit (from + a) ≡ false → ⊥
reaches limit from a b le more less = grind (arith, nat_tests)

part_less : (offset size : ℕ) (b c : List ℕ) → length c ≤ length b → part_refusal offset size b ≡ None → part_refusal offset size c ≡ None
part_less offset size b [] le q = refl
part_less offset size [] (y ∷ ys) le q = absurd (omega (arith, le))
part_less offset size (x ∷ xs) (y ∷ ys) le q = by_offset (nat_lt size offset) refl q
  where
    by_offset : (a : Bool) → nat_lt size offset ≡ a → (if a then Some BadOffset else (if nat_lt largest_size (offset + length (x ∷ xs)) then Some TooBig else None)) ≡ None → (if a then Some BadOffset else (if nat_lt largest_size (offset + length (y ∷ ys)) then Some TooBig else None)) ≡ None
    by_offset true e q = absurd cc
    by_offset false e q = by_end (nat_lt largest_size (offset + length (y ∷ ys))) refl (nat_lt largest_size (offset + length (x ∷ xs))) refl q
      where
        by_end : (a : Bool) → nat_lt largest_size (offset + length (y ∷ ys)) ≡ a → (d : Bool) → nat_lt largest_size (offset + length (x ∷ xs)) ≡ d → ◌≡◌ {A = Option Cause} (if d then Some TooBig else None) None → ◌≡◌ {A = Option Cause} (if a then Some TooBig else None) None
        by_end false e d g q = refl
        by_end true e true g q = q
        by_end true e false g q = absurd (reaches largest_size offset (length (x ∷ xs)) (length (y ∷ ys)) le e g)

pub fewer_go : (version : Version) (k : NodeKind) (offset n : ℕ) (b : List ℕ) → write_kind version k offset b ≡ None → write_kind version k offset (take n b) ≡ None
fewer_go version (Directory slots) offset n b q = part_less offset _ b (take n b) (take_less n b) q
fewer_go version (File bytes) offset n b q = part_less offset (length bytes) b (take n b) (take_less n b) q
fewer_go version (Device major minor size) offset n b q = absurd cc

-- The act.

abbrev pub with_written : Tree → (ℕ → Option Node) → (ℕ → Option OpenFile) → Tree
with_written t N F = record t { nodes = N; files = F }

no_bytes : (k : NodeKind) (offset : ℕ) → written_kind k offset [] ≡ k
no_bytes (Directory slots) offset = refl
no_bytes (File bytes) offset = (λ i. File (append-nil (take offset bytes) i ++ drop (plus_none offset i) bytes)) ∙ ap (λ (z : List ℕ). File z) (take-append-drop offset bytes)
  where
    plus_none : (n : ℕ) → n + 0 ≡ n
    plus_none n = omega arith
no_bytes (Device major minor size) offset = refl

pub wrote_is : (t : Tree) (h fd id n : ℕ) (b : List ℕ) (f : OpenFile) (x : Node) → t.fds h fd ≡ Some id → t.files id ≡ Some f → file_at t h fd ≡ Some f → f.number ≡ n → t.nodes n ≡ Some x → wrote t h fd b ≡ with_written t (put t.nodes n (Some (with_bytes f.offset b x))) (put t.files id (Some (offset_on f (length b))))
wrote_is t h fd id n [] f x is at file number node = λ i. record t {
  nodes = sym (put_self t.nodes n (Some (with_bytes f.offset [] x)) (node ∙ (λ j. Some (record x { kind = sym (no_bytes x.kind f.offset) j })))) i;
  files = sym (put_self t.files id (Some (offset_on f 0)) (at ∙ (λ j. Some (record f { offset = no_more f.offset j })))) i;
}
  where
    no_more : (n : ℕ) → n ≡ n + 0
    no_more n = omega arith
wrote_is t h fd id n (c ∷ cs) f x is at file number node =
    (λ i. moved (written t (file i) (c ∷ cs)) (is i) (length (c ∷ cs)))
    ∙ (λ i. record t {
      nodes = put t.nodes (number i) (Some (with_bytes f.offset (c ∷ cs) (node_or (t.nodes (number i)))));
      files = put t.files id (and_then (at i) (λ g. Some (record g { offset = g.offset + length (c ∷ cs) })));
    })
    ∙ (λ i. with_written t (put t.nodes n (Some (with_bytes f.offset (c ∷ cs) (node_or (node i))))) (put t.files id (Some (offset_on f (length (c ∷ cs))))))

wrote_settled : (t : Tree) (h fd id n : ℕ) (b : List ℕ) (f : OpenFile) (x : Node) → t.fds h fd ≡ Some id → t.files id ≡ Some f → file_at t h fd ≡ Some f → f.number ≡ n → (settle t).nodes n ≡ Some x → wrote (settle t) h fd b ≡ with_written (settle t) (put (settle t).nodes n (Some (with_bytes f.offset b x))) (put t.files id (Some (offset_on f (length b))))
unfolding settle
wrote_settled t h fd id n b f x is at file number node = wrote_is (settle t) h fd id n b f x is at file number node

pub write_effect : (version : Version) (t : Tree) (h fd new id : ℕ) (b : List ℕ) (res : Option ℕ) (par : Option (ℕ × Name)) → effect_with version t h (WritePart fd b) res par new id ≡ wrote t h fd b
unfolding effect_by
write_effect version t h fd new id b res par = refl

pub write_answer : (version : Version) (t : Tree) (h fd id : ℕ) (b : List ℕ) (res : Option ℕ) (par : Option (ℕ × Name)) → answer_with version t h (WritePart fd b) res par id ≡ Done
unfolding answer_by
write_answer version t h fd id b res par = refl

as_written : (t : Tree) (N : ℕ → Option Node) (F : ℕ → Option OpenFile) → with_written (settle t) N F ≡ with_nodes (with_open t t.fds F) N
unfolding settle
as_written t N F = refl

-- A node changes, and open files of which none names more: the tree settles as it would have.
settle_written : (t : Tree) (i : ℕ) (y : Option Node) (F : ℕ → Option OpenFile) → NamesLess t t.fds F → settle (with_written t (put t.nodes i y) F) ≡ settle (with_written (settle t) (put (settle t).nodes i y) F)
settle_written t i y F less = sym (ap (λ (z : Tree). settle z) (as_written t (put (settle t).nodes i y) F) ∙ settle_nodes (with_open t t.fds F) (put (settle t).nodes i y) (put t.nodes i y) (λ n. elim (same_or n i) [
  | inl e ↦ inl (ap (put (settle t).nodes i y) e ∙ put_same (settle t).nodes i y ∙ sym (ap (put t.nodes i y) e ∙ put_same t.nodes i y))
  | inr ne ↦ elim (settle_or t n) [
    | inl q ↦ inl (put_other (settle t).nodes i y n ne ∙ q ∙ sym (put_other t.nodes i y n ne))
    | inr q ↦ inr (put_other (settle t).nodes i y n ne ∙ q.0, ap (λ (z : Option Node). is_live z) (put_other t.nodes i y n ne) ∙ q.1, named_less t t.fds F less n q.2)
  ]
]))

pub settle_wrote : (t : Tree) (h fd id n : ℕ) (b : List ℕ) (f : OpenFile) (x : Node) → t.fds h fd ≡ Some id → t.files id ≡ Some f → file_at t h fd ≡ Some f → f.number ≡ n → (settle t).nodes n ≡ Some x → NamesLess t t.fds (put t.files id (Some (offset_on f (length b))))
    → settle (with_written t (put t.nodes n (Some (with_bytes f.offset b x))) (put t.files id (Some (offset_on f (length b))))) ≡ settle (wrote (settle t) h fd b)
settle_wrote t h fd id n b f x is at file number node less = settle_written t n (Some (with_bytes f.offset b x)) (put t.files id (Some (offset_on f (length b)))) less ∙ ap (λ (z : Tree). settle z) (sym (wrote_settled t h fd id n b f x is at file number node))

pub well_wrote : (t : Tree) (i offset : ℕ) (b : List ℕ) (x : Node) → IsWellFormed t → t.nodes i ≡ Some x → IsWellFormed (with_nodes t (put t.nodes i (Some (with_bytes offset b x))))
well_wrote t i offset b x k is = elim (either (is_directory x.kind)) [
  | inl y ↦ subst (λ (w : Node). IsWellFormed (with_nodes t (put t.nodes i (Some w)))) (λ j. record x { kind = sym (written_dir x.kind offset b y) j }) (well_same t i x k is)
  | inr y ↦ well_content t i x (with_bytes offset b x) k is refl y (type_written x.kind offset b y)
]

pub written_type : (k : NodeKind) (offset : ℕ) (b : List ℕ) → type_of_kind (written_kind k offset b) ≡ type_of_kind k
written_type (Directory slots) offset b = refl
written_type (File bytes) offset b = refl
written_type (Device major minor size) offset b = refl
