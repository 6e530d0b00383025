-- Write: a descriptor is looked up, its inode locked, a piece written at the offset, and the offset moves, with the lock given up.
use Rattle.image_versions.specs.declared.version.Version.{Version}
use Rattle.inode_machine.proofs.Vocabulary.{◌≡◌, ◌≢◌, inl, inr, ℕ, ◌+◌, ◌-◌, ◌<◌, ◌≤◌, Bool, true, false, List, [], ◌∷◌, take, length, Option, Some, None, refl, sym, ◌∙◌, ap, subst, arith, Do, Ran, unmarked, ExecResult, P, own, onto, Good, Fine, Safe, Wp, Cause, BadDescriptor, Node, NodeKind, Directory, File, Device, WritePart, Done, hart_count, descriptor_count, piece_len, Name, Tree, put, is_live, settle, resolve, parent, is_file, node_or, refusal_with, with_nodes, write_kind, IsWellFormed, same_or, put_same, put_other, Stage, Step, PlaysStep, OwnMove, Entry, Desk, World, stage_of, Outside, Room, RoomFor, Picks, JoinResult, NotJoined, Joined, Wrote, Whole, Refused as Stopped, Short, CheckFile, JoinFile, LockOpen, WriteFile, InodeType, OfDirectory, OfFile, OfDevice, no_driver_for, type_of, type_of_kind, Made, places, with_mark, made_by, new_id, with_made, spoiled, slot_at, entry_moved, entry_at, entry_of, offset_of, lock_if, locked, join_at, unlocked, with_joined, with_bytes, with_offset, with_walk, mode_refusal, write_at, write_if, write_refused, Key, file_settled, settle_again, Own, Held, view, is_hart, own_of, file_tables_of, Inv, KeepsFiles, machine, IsOut, HonestPiece, own_step, refused_to, writes}
use Rattle.inode_machine.specs.Exec.{with_record}
use Rattle.inode_machine.proofs.Basics.{put_elim, is_put, file_tables_same, ours_none, ours_some, kept_here, HartStep, Fair, fair, fair_then, own_inodes, has_inode, stands_in, type_on, s-owned, s-owned-from, quiet, fine_after, has_disk, has_node, others, locking, locked_held, is_out, locks_it, locks_none, UnlocksAll, Gives, after_unlock, gives, stage_walk, moves_good, own_walk, walk_did, own_takes, Behind, behind, behind_none, Flagging, flagging, filling, fails, refused_good, Refused as RefusedStep}
use Rattle.inode_machine.proofs.Stats.{entry_is, node_settled, node_there}
use Rattle.inode_machine.proofs.Readings.{IsOpenAt, StandsBy, reads_from, stands_still, Moving, entry_here, moved_names, moved_world, moving, offset_on, open_from, slot_is}
use Rattle.inode_machine.proofs.Pieces.{write_by_kind, write_place, write_refused_at, write_refused_none, write_stops, empty_piece_goes, fewer_go, wrote_is, write_effect, write_answer, settle_wrote, well_wrote, written_type}

abbrev pub wrote_step : ℕ → List ℕ → Step
wrote_step fd b = record { move = OwnMove (WritePart fd b) 0; told = Some (record { act = record { step = WritePart fd b; answer = Done }; new = 0 }) }

-- A kept inode's record and its node change at once, but not its type, nor whether it is live.

abbrev pub changed_world : ℕ → Node → World → World
changed_world i y v = record v { disk = put v.disk i (Some y); all = with_nodes v.all (put v.all.nodes i (Some y)) }

pub record Changing (h i : ℕ) (y : Node) (x : Held) (v : World) (O : Own) : Type 0 where
  pub fair : Fair h v (changed_world i y v)
  pub owned : own_of h (changed_world i y v) ≡ record O { inodes = put O.inodes i (Some (record x { disk = Some y; node = Some y })) }

pub changing : Version → (h i : ℕ) (y : Node) (x : Held) (v : World) (O : Own) → own_of h v ≡ O → O.desk.lender ≡ None → h < hart_count → Inv v → O.mine.pending ≡ None → O.inodes i ≡ Some x
    → type_of (Some y) ≡ type_of (v.all.nodes i) → is_live (Some y) ≡ is_live (v.all.nodes i) → IsWellFormed (with_nodes v.all (put v.all.nodes i (Some y))) → Changing h i y x v O
changing version h i y x v O ov free lt inv none isi inode_type live well = record { fair = fair inv did; owned = owned }
  where
    u : World
    u = changed_world i y v

    kept : v.keeper i ≡ Some h
    kept = (has_inode h i v O x ov isi).0

    inode_types : (j : ℕ) → type_of (put v.all.nodes i (Some y) j) ≡ type_of (v.all.nodes j)
    inode_types j = put_elim v.all.nodes i (Some y) j (λ z. type_of z ≡ type_of (v.all.nodes j)) (λ e. inode_type ∙ ap (λ (z : ℕ). type_of (v.all.nodes z)) (sym e)) (λ ne. refl)

    lives : (j : ℕ) → is_live (put v.all.nodes i (Some y) j) ≡ is_live (v.all.nodes j)
    lives j = put_elim v.all.nodes i (Some y) j (λ z. is_live z ≡ is_live (v.all.nodes j)) (λ e. live ∙ ap (λ (z : ℕ). is_live (v.all.nodes z)) (sym e)) (λ ne. refl)

    did : HartStep h v u
    did =
        record {
          hart = lt;
          inodes = λ j. elim (same_or j i) [
            | inl q ↦ inr (record {
              before = ours_some h (v.keeper j) (ap v.keeper q ∙ kept);
              after = ours_some h (v.keeper j) (ap v.keeper q ∙ kept);
              whole = λ f. absurd (let s : v.keeper j ≡ Some h = ap v.keeper q ∙ kept in cc);
              keeps = λ g is. inv.keeps j g is;
            })
            | inr ne ↦ inl (record { lock = refl; keeper = refl; disk = put_other v.disk i (Some y) j ne; node = put_other v.all.nodes i (Some y) j ne; alone = refl })
          ];
          mine = λ g ne. refl;
          rows = λ g ne. refl;
          size = refl;
          ids = inv.ids;
          file_tables = file_tables_same h (file_tables_of v) inv.tied;
          free = ap (λ (o : Own). o.desk.lender) ov ∙ free;
          raised = inv.raised h lt;
          quiet = λ j is f. elim (same_or j i) [
            | inl q ↦ ap (put v.disk i (Some y)) q ∙ put_same v.disk i (Some y) ∙ sym (ap (put v.all.nodes i (Some y)) q ∙ put_same v.all.nodes i (Some y))
            | inr ne ↦ put_other v.disk i (Some y) j ne ∙ inv.quiet j h is f ∙ sym (put_other v.all.nodes i (Some y) j ne)
          ];
          inode_type = λ j. inl (inode_types j);
          inode_types = λ k e is. type_on v.all.nodes (put v.all.nodes i (Some y)) e (inode_types e.file.number) (inv.inode_types k e is);
          noted = λ n is r s. inode_types n.number ∙ inv.noted h n lt is r s;
          directory = stands_in (v.desks h) (v.all.cwd h) v.all.nodes (put v.all.nodes i (Some y)) (inode_types (v.desks h).directory) (inv.directory h lt);
          refers = inv.refers h lt;
          well = well;
          counts = inv.counts;
          alone = λ j is. let a = inv.alone j is in record { hart = a.hart; kept = a.kept; dead = lives j ∙ a.dead; counts = a.counts };
          kept = λ j is. (inv.kept j h is).1;
          held = λ j is. inv.held j h is;
          named = λ j is. inv.named h j lt (ap (λ (o : Own). o.desk.lender) ov ∙ free) is;
          pending = λ j is. absurd (let p : (v.harts h).pending ≡ None = ap (λ (o : Own). o.mine.pending) ov ∙ none in cc);
          walks = λ z is. inv.walks h z lt is;
        }

    now : view u h i ≡ record x { disk = Some y; node = Some y }
    now = (λ r. record { disk = put_same v.disk i (Some y) r; node = put_same v.all.nodes i (Some y) r; alone = v.alone i; locked = is_hart (v.lock i) h }) ∙ ap (λ (z : Held). record z { disk = Some y; node = Some y }) (has_inode h i v O x ov isi).1

    owned : own_of h u ≡ record O { inodes = put O.inodes i (Some (record x { disk = Some y; node = Some y })) }
    owned = λ z. record {
      inodes = own_inodes h i v u O (Some (record x { disk = Some y; node = Some y })) ov (kept_here h (u.keeper i) (view u h i) kept ∙ ap (λ (q : Held). Some q) now)
          (λ j ne. (refl, (λ r. record { disk = put_other v.disk i (Some y) j ne r; node = put_other v.all.nodes i (Some y) j ne r; alone = v.alone j; locked = is_hart (v.lock j) h }))) z;
      mine = ap (λ (o : Own). o.mine) ov z;
      row = ap (λ (o : Own). o.row) ov z;
      ninodes = ap (λ (o : Own). o.ninodes) ov z;
      desk = ap (λ (o : Own). o.desk) ov z;
    }

pub put_twice : {A : Type 0} (f : ℕ → A) (i : ℕ) (x y : A) → put (put f i x) i y ≡ put f i y
put_twice f i x y = is_put f (put (put f i x) i y) i y (put_same (put f i x) i y) (λ j ne. put_other (put f i x) i y j ne ∙ put_other f i x j ne)

-- The act: the piece, the lock given up, the offset.

abbrev pub after_piece : ℕ → ℕ → ℕ → Entry → Node → List ℕ → World → World
after_piece h i s e y b v = moved_world h s (length b) e (after_unlock i (changed_world i y v))

pub record Writing (version : Version) (h fd i s : ℕ) (e : Entry) (x : Node) (b : List ℕ) (v : World) (O : Own) : Type 0 where
  pub fair : Fair h v (after_piece h i s e (with_bytes e.file.offset b x) b v)
  pub owned : own_of h (after_piece h i s e (with_bytes e.file.offset b x) b v) ≡ record O { inodes = put O.inodes i None; mine = record { refs = O.mine.refs; walk = None; pending = None } }
  pub made : made_by version v.all h (new_id v) (v.harts h).walk (OwnMove (WritePart fd b) 0) ≡ record { all = (after_piece h i s e (with_bytes e.file.offset b x) b v).all; walk = None; found = None; opened = None; entered = None; left = None; told = (wrote_step fd b).told }
  pub takes : PlaysStep version (stage_of v) h (wrote_step fd b) (stage_of (after_piece h i s e (with_bytes e.file.offset b x) b v))

pub writing : (version : Version) (h fd i s : ℕ) (e : Entry) (x : Node) (b : List ℕ) (v : World) (O : Own) → own_of h v ≡ O → O.desk.lender ≡ None → h < hart_count → Inv v → O.mine.walk ≡ None → O.mine.pending ≡ None → Behind h fd s e v
    → e.file.number ≡ i → O.inodes i ≡ Some (locked_held (Some x)) → e.file.writable ≡ true → write_kind version x.kind e.file.offset b ≡ None → Writing version h fd i s e x b v O
writing version h fd i s e x b v O ov free lt inv walks none hit num isi writable goes =
    record {
      fair = fair_then c.fair (fair_then g.fair m.fair);
      owned = m.owned ∙ (λ z. record O { inodes = put_twice O.inodes i (Some (locked_held (Some y))) None z; mine = record { refs = O.mine.refs; walk = None; pending = None } });
      made = rw (now (resolve version v.all h []) (parent version v.all h []))
          (λ r. record { all = (write_effect version v.all h fd 0 (new_id v) b (resolve version v.all h []) (parent version v.all h []) ∙ wrote_is v.all h fd (v.ids s) i b e.file x hit.tree opened hit.file num node) r; walk = None; found = None; opened = None; entered = None; left = None; told = Some (record { act = record { step = WritePart fd b; answer = write_answer version v.all h fd (new_id v) b (resolve version v.all h []) (parent version v.all h []) r }; new = 0 }) });
      takes = own_takes version h v (after_piece h i s e y b v) (WritePart fd b) Done refl refl (ap (λ (o : Own). o.mine.walk) ov ∙ walks) (λ z. refl) (λ g z. absurd cc) (
        then_ (resolve version (settle v.all) h []) (parent version (settle v.all) h []),
        sym (write_answer version (settle v.all) h fd (new_id v) b (resolve version (settle v.all) h []) (parent version (settle v.all) h [])),
        record { node = λ z. absurd cc; file = λ z. absurd cc },
        settle_wrote v.all h fd (v.ids s) i b e.file x hit.tree opened hit.file num settled (moved_names v.all (v.ids s) e.file (offset_on e.file (length b)) opened refl) ∙ ap (λ (z : Tree). settle z) (sym (write_effect version (settle v.all) h fd 0 (new_id v) b (resolve version (settle v.all) h []) (parent version (settle v.all) h []))),
        write_place (settle v.all) h fd b lt,
      )
          (ap (λ (z : Stage). z.walk) (stage_walk h None None v));
    }
  where
    y : Node
    y = with_bytes e.file.offset b x

    node : v.all.nodes i ≡ Some x
    node = has_node h i v O (locked_held (Some x)) ov isi

    opened : v.all.files (v.ids s) ≡ Some e.file
    opened = inv.tied.files s e hit.at

    settled : (settle v.all).nodes i ≡ Some x
    settled = subst (λ (z : ℕ). (settle v.all).nodes z ≡ v.all.nodes z) num (node_settled h fd v e s inv lt hit) ∙ node

    now : (res : Option ℕ) (par : Option (ℕ × Name)) → refusal_with version v.all h (WritePart fd b) res par ≡ None
    now res par = write_by_kind version v.all h fd b e.file None res par hit.file writable ((λ r. write_kind version (node_or (v.all.nodes (num r))).kind e.file.offset b) ∙ (λ r. write_kind version (node_or (node r)).kind e.file.offset b) ∙ goes)

    then_ : (res : Option ℕ) (par : Option (ℕ × Name)) → refusal_with version (settle v.all) h (WritePart fd b) res par ≡ None
    then_ res par = write_by_kind version (settle v.all) h fd b e.file None res par (file_settled v.all h fd ∙ hit.file) writable ((λ r. write_kind version (node_or ((settle v.all).nodes (num r))).kind e.file.offset b) ∙ (λ r. write_kind version (node_or (settled r)).kind e.file.offset b) ∙ goes)

    c : Changing h i y (locked_held (Some x)) v O
    c = changing version h i y (locked_held (Some x)) v O ov free lt inv none isi
        (ap (λ (z : InodeType). Some z) (written_type x.kind e.file.offset b) ∙ ap (λ (z : Option Node). type_of z) (sym node)) (ap (λ (z : Option Node). is_live z) (sym node)) (well_wrote v.all i e.file.offset b x inv.well node)

    O1 : Own
    O1 = record O { inodes = put O.inodes i (Some (locked_held (Some y))) }

    g : Gives h i O1 (changed_world i y v)
    g = gives version h i (locked_held (Some y)) O1 (changed_world i y v) free lt c.fair.inv c.owned (put_same O.inodes i (Some (locked_held (Some y)))) refl refl none

    m : Moving h s (length b) e (after_unlock i (changed_world i y v)) (record O1 { inodes = put O1.inodes i None })
    m = moving h fd s (length b) e (after_unlock i (changed_world i y v)) (record O1 { inodes = put O1.inodes i None }) g.owned free lt g.fair.inv none (record { below = hit.below; is = hit.is; at = hit.at; tree = hit.tree; file = hit.file })
        (ours_none h (put v.keeper i None e.file.number) (ap (put v.keeper i None) num ∙ put_same v.keeper i None))

-- A step that finds no room, whatever it did to the tree.
pub spoils_fine : (version : Version) {h more n : ℕ} {B : List Step → Type 0} {es : List Step} {v u : World} {Next : ℕ → Type 0} → Fair h v u → u.clean ≡ false → more < n → ((l : ℕ) → l + (more + 1) ≡ n → Next l) → Fine (machine version) h [] more n B es v u Next
spoils_fine version {h} {more} {n} f dirty pos next =
    record { inv = f.inv; kept = λ g ne. others f g ne; goes = λ c. absurd (cc (dirty, c)); clean = f.clean; begun = λ c. inl refl; left = n - (more + 1); falls = omega (arith, pos); next = next (n - (more + 1)) (omega (arith, pos)) }

-- A descriptor of the hart's own that is open for writing, with its inode.
pub record IsWritable (O : Own) (fd n : ℕ) : Type 0 where
  pub opened : IsOpenAt O fd n
  pub writable : opened.key.writable ≡ true

pub writable_here : (h fd n : ℕ) (v : World) (O : Own) (k : IsWritable O fd n) → Inv v → own_of h v ≡ O → h < hart_count → O.desk.opening ≡ None → (e : Entry) × Behind h fd k.opened.slot e v × (e.file.number ≡ n) × (e.file.writable ≡ true)
writable_here h fd n v O k inv ov lt idle =
    let z = entry_here h fd n v O k.opened inv ov lt idle in
    (z.0, z.1, ap (λ (q : Key). q.number) z.2 ∙ k.opened.number, ap (λ (q : Key). q.writable) z.2 ∙ k.writable)

pub writes_to : (w : Bool) (s : InodeType) → mode_refusal w s ≡ None → w ≡ true
writes_to true s e = refl
writes_to false s e = absurd cc

abbrev pub writable_from : (h fd s : ℕ) (e : Entry) (v : World) (O : Own) → Inv v → own_of h v ≡ O → h < hart_count → Behind h fd s e v → write_refused (Some e) ≡ None → IsWritable O fd e.file.number
writable_from h fd s e v O inv ov lt hit goes = record { opened = open_from h fd s e v O inv ov lt hit; writable = writes_to e.file.writable e.inode_type goes }

-- What a slot has open is a file.
pub record OpensFile (w : World) (slot : ℕ) : Type 0 where
  pub entry : Entry
  pub at : w.files slot ≡ Some entry
  pub inode_type : entry.inode_type ≡ OfFile

-- which stays so of a descriptor of the hart
pub file_stays : (h fd s : ℕ) (w v : World) → h < hart_count → fd < descriptor_count → (w.desks h).fds fd ≡ Some s → KeepsFiles h w v → OpensFile w s → OpensFile v s
file_stays h fd s w v lt below is keeps f = let y = keeps fd s f.entry lt below is f.at in record { entry = y.0; at = y.1; inode_type = y.2 ∙ f.inode_type }

pub file_same : (s : ℕ) (v u : World) → u.files ≡ v.files → OpensFile v s → OpensFile u s
file_same s v u same f = record { entry = f.entry; at = (λ z. same z s) ∙ f.at; inode_type = f.inode_type }

only_file : (s : InodeType) → no_driver_for s ≡ None → s ≢ OfDirectory → s ≡ OfFile
only_file OfDirectory e ne = absurd (ne refl)
only_file OfFile e ne = refl
only_file (OfDevice major) e ne = absurd cc

file_from : (s : ℕ) (e : Entry) (v : World) → Inv v → v.files s ≡ Some e → write_refused (Some e) ≡ None → OpensFile v s
file_from s e v inv at goes = let r = reads_from e.file.writable e.inode_type goes in record { entry = e; at = at; inode_type = only_file e.inode_type r.1 ((inv.inode_types s e at).written r.0) }

is_file_kind : (k : NodeKind) → type_of_kind k ≡ OfFile → is_file k ≡ true
is_file_kind (Directory slots) e = absurd cc
is_file_kind (File bytes) e = refl
is_file_kind (Device major minor size) e = absurd cc

-- so the inode that it names is one
file_node : (s i : ℕ) (e : Entry) (y : Node) (v : World) → Inv v → v.files s ≡ Some e → e.file.number ≡ i → v.all.nodes i ≡ Some y → OpensFile v s → is_file y.kind ≡ true
file_node s i e y v inv at num node f = is_file_kind y.kind (
    let a : Some e ≡ Some f.entry = sym at ∙ f.at in
    let b : e ≡ f.entry = cc in
    let c : Some (type_of_kind y.kind) ≡ Some e.inode_type = ap (λ (z : Option Node). type_of z) (sym node) ∙ ap (λ (z : ℕ). type_of (v.all.nodes z)) (sym num) ∙ (inv.inode_types s e at).inode_type in
    let d : e.inode_type ≡ OfFile = ap (λ (z : Entry). z.inode_type) b ∙ f.inode_type in
    let g : type_of_kind y.kind ≡ e.inode_type = cc in
    g ∙ d
    )

-- what the table refuses is refused in the tree
pub table_refuses : (version : Version) (h fd s : ℕ) (e : Entry) (b : List ℕ) (c : Cause) (v : World) → Inv v → h < hart_count → Behind h fd s e v → write_refused (Some e) ≡ Some c → RefusedStep version h (WritePart fd b) c v
table_refuses version h fd s e b c v inv lt hit stops = write_refused_at version h fd b c v lt
    (λ res par. write_stops version v.all h fd b e c res par hit.file (inv.inode_types s e hit.at).inode_type stops)
    (λ res par. write_stops version (settle v.all) h fd b e c res par (file_settled v.all h fd ∙ hit.file) (ap (λ (z : Option Node). type_of z) (node_settled h fd v e s inv lt hit) ∙ (inv.inode_types s e hit.at).inode_type) stops)

-- The transaction is joined for a descriptor to write to; or the first piece is refused.
pub s-join-file : (version : Version) {A : Type 0} {h : ℕ} (fd : ℕ) (b : List ℕ) {k : JoinResult → P (machine version) A} {B : List Step → Type 0} {Q : A → List Step → World → Type 0} {n : ℕ} {es : List Step} {w : World} {O : Own}
    → own_of h w ≡ O → O.desk.lender ≡ None → h < hart_count → 0 < n → O.mine.walk ≡ None → O.mine.pending ≡ None → O.desk.opening ≡ None → UnlocksAll O → O.desk.joined ≡ false
    → ((c : Cause) → B (fails (WritePart fd b) c ∷ es))
    → ((l : ℕ) (c : Cause) (u : World) → l + 1 ≡ n → own_of h u ≡ record O { mine = record { refs = O.mine.refs; walk = None; pending = None } } → Safe (machine version) h B Q (k (NotJoined c)) l (fails (WritePart fd b) c ∷ es) u)
    → ((l i : ℕ) (u : World) → l + 1 ≡ n → (key : IsWritable O fd i) → OpensFile u key.opened.slot → own_of h u ≡ record O { desk = record (O.desk) { joined = true } } → Safe (machine version) h B Q (k (Joined i)) l es u)
    → Safe (machine version) h B Q (Do (JoinFile fd) (refused_to fd b) k) n es w
s-join-file version {A} {h} fd b {k} {B} {Q} {n} {es} {w} {O} owns free lt pos walks none idle unlocks out bf bad then_ = s-owned version owns free pos (λ v inv ov. ((locks_none h v O inv ov unlocks, ap (λ (o : Own). o.desk.joined) ov ∙ out), (λ _ _. at v inv ov (slot_at v h fd) refl)))
  where
    Goal : World → ExecResult JoinResult World → Type 0
    Goal v z = Good (machine version) JoinResult h (λ a. places version h (JoinFile fd) a (refused_to fd b a) v) 0 n B es v ⊥ (with_mark version h (refused_to fd b) z) (λ l a u. Wp (machine version) h B Q (k a) l (onto (own h (places version h (JoinFile fd) a (refused_to fd b a) v)) es) u)

    opening_none : (v : World) → own_of h v ≡ O → (v.desks h).opening ≡ None
    opening_none v ov = ap (λ (o : Own). o.desk.opening) ov ∙ idle

    by_cause : (v : World) → Inv v → own_of h v ≡ O → (s : ℕ) (e : Entry) → Behind h fd s e v → (o : Option Cause) → write_refused (Some e) ≡ o → Goal v (join_at h v (Some e) o)
    by_cause v inv ov s e hit None goes =
        let new : Desk = record (v.desks h) { joined = true } in
        let f = flagging h v O new (record (O.desk) { joined = true }) v.clean ov free lt inv (ap (λ (o : Own). record (o.desk) { joined = true }) ov)
        (record { fds = refl; hand = refl; lent = refl; opening = refl; left = refl; directory = refl }) (ap (λ (o : Own). o.desk.lender) ov ∙ free) (λ f j is. absurd cc) (λ q. refl) (λ m q r s. inv.noted h m lt q r s) (λ q. inv.tied.spoiled h q) (λ q. q) (λ q. q) in
        quiet version f.fair refl pos (λ l q. (then_ l e.file.number (with_joined v h true) q (writable_from h fd s e v O inv ov lt hit goes) (file_same s v (with_joined v h true) refl (file_from s e v inv hit.at goes)) f.owned).wp)
    by_cause v inv ov s e hit (Some c) stops =
        refused_good version h 0 n B Q es v O (WritePart fd b) c (k (NotJoined c)) ov free lt inv walks none (table_refuses version h fd s e b c v inv lt hit stops) (bf c) pos (λ l u p own2. bad l c u p own2)

    at : (v : World) → Inv v → own_of h v ≡ O → (o : Option ℕ) → slot_at v h fd ≡ o → Goal v (join_at h v (entry_at v.files o) (write_refused (entry_at v.files o)))
    at v inv ov None q = refused_good version h 0 n B Q es v O (WritePart fd b) BadDescriptor (k (NotJoined BadDescriptor)) ov free lt inv walks none (write_refused_none version h fd b v lt (behind_none h fd v inv lt (opening_none v ov) q)) (bf BadDescriptor) pos (λ l u p own2. bad l BadDescriptor u p own2)
    at v inv ov (Some s) q =
        let z = behind h fd s v inv lt (opening_none v ov) q in
        subst (λ (o : Option Entry). Goal v (join_at h v o (write_refused o))) (sym z.1.at) (by_cause v inv ov s z.0 z.1 (write_refused (Some z.0)) refl)

-- No bytes: the step is refused, or changes nothing.
pub s-check-file : (version : Version) {A : Type 0} {h : ℕ} (fd : ℕ) {k : Option Cause → P (machine version) A} {B : List Step → Type 0} {Q : A → List Step → World → Type 0} {n : ℕ} {es : List Step} {w : World} {O : Own}
    → own_of h w ≡ O → O.desk.lender ≡ None → h < hart_count → 0 < n → O.mine.walk ≡ None → O.mine.pending ≡ None → O.desk.opening ≡ None
    → ((c : Cause) → B (fails (WritePart fd []) c ∷ es)) → B (wrote_step fd [] ∷ es)
    → ((l : ℕ) (c : Cause) (u : World) → l + 1 ≡ n → own_of h u ≡ record O { mine = record { refs = O.mine.refs; walk = None; pending = None } } → Safe (machine version) h B Q (k (Some c)) l (fails (WritePart fd []) c ∷ es) u)
    → ((l : ℕ) (u : World) → l + 1 ≡ n → own_of h u ≡ record O { mine = record { refs = O.mine.refs; walk = None; pending = None } } → Safe (machine version) h B Q (k None) l (wrote_step fd [] ∷ es) u)
    → Safe (machine version) h B Q (Do (CheckFile fd) (λ o. own_step (WritePart fd [])) k) n es w
s-check-file version {A} {h} fd {k} {B} {Q} {n} {es} {w} {O} owns free lt pos walks none idle bf bd bad then_ = s-owned version owns free pos (λ v inv ov. (tt, (λ _ _. at v inv ov (slot_at v h fd) refl)))
  where
    Goal : World → Option Cause → Type 0
    Goal v o = Good (machine version) (Option Cause) h (λ a. places version h (CheckFile fd) a (own_step (WritePart fd [])) v) 0 n B es v ⊥ (with_mark version h (λ (_ : Option Cause). own_step (WritePart fd [])) (Ran o v)) (λ l a u. Wp (machine version) h B Q (k a) l (onto (own h (places version h (CheckFile fd) a (own_step (WritePart fd [])) v)) es) u)

    opening_none : (v : World) → own_of h v ≡ O → (v.desks h).opening ≡ None
    opening_none v ov = ap (λ (o : Own). o.desk.opening) ov ∙ idle

    by_cause : (v : World) → Inv v → own_of h v ≡ O → (s : ℕ) (e : Entry) → Behind h fd s e v → (o : Option Cause) → write_refused (Some e) ≡ o → Goal v o
    by_cause v inv ov s e hit (Some c) stops =
        refused_good version h 0 n B Q es v O (WritePart fd []) c (k (Some c)) ov free lt inv walks none (table_refuses version h fd s e [] c v inv lt hit stops) (bf c) pos (λ l u p own2. bad l c u p own2)
    by_cause v inv ov s e hit None goes =
        moves_good version h 0 n B Q es v v (OwnMove (WritePart fd []) 0) tt (k None) (made_by version v.all h (new_id v) (v.harts h).walk (OwnMove (WritePart fd []) 0)) (record { all = v.all; walk = None; found = None; opened = None; entered = None; left = None; told = (wrote_step fd []).told })
        (rw (empty_piece_goes version v.all h fd e (resolve version v.all h []) (parent version v.all h []) hit.file (inv.inode_types s e hit.at).inode_type goes)
        (λ r. record { all = write_effect version v.all h fd 0 (new_id v) [] (resolve version v.all h []) (parent version v.all h []) r; walk = None; found = None; opened = None; entered = None; left = None; told = Some (record { act = record { step = WritePart fd []; answer = write_answer version v.all h fd (new_id v) [] (resolve version v.all h []) (parent version v.all h []) r }; new = 0 }) }))
        (fair inv (walk_did h None None v (ap (λ (o : Own). o.desk.lender) ov ∙ free) lt inv (ap (λ (o : Own). o.mine.pending) ov ∙ none) (λ m q p. absurd cc) (λ z p. absurd cc) (λ j p. absurd cc)))
        (own_takes version h v (record v { harts = with_walk v.harts h None None }) (WritePart fd []) Done refl refl (ap (λ (o : Own). o.mine.walk) ov ∙ walks) (λ z. refl) (λ g z. absurd cc) (
          empty_piece_goes version (settle v.all) h fd e (resolve version (settle v.all) h []) (parent version (settle v.all) h []) (file_settled v.all h fd ∙ hit.file) (ap (λ (z : Option Node). type_of z) (node_settled h fd v e s inv lt hit) ∙ (inv.inode_types s e hit.at).inode_type) goes,
          sym (write_answer version (settle v.all) h fd (new_id v) [] (resolve version (settle v.all) h []) (parent version (settle v.all) h [])),
          record { node = λ z. absurd cc; file = λ z. absurd cc },
          settle_again v.all ∙ ap (λ (z : Tree). settle z) (sym (write_effect version (settle v.all) h fd 0 (new_id v) [] (resolve version (settle v.all) h []) (parent version (settle v.all) h []))),
          write_place (settle v.all) h fd [] lt,
        )
        (ap (λ (z : Stage). z.walk) (stage_walk h None None v)))
        bd pos
        (λ l q. (then_ l (record v { harts = with_walk v.harts h None None }) q (own_walk h None None v O ov)).wp)

    at : (v : World) → Inv v → own_of h v ≡ O → (o : Option ℕ) → slot_at v h fd ≡ o → Goal v (write_refused (entry_at v.files o))
    at v inv ov None q = refused_good version h 0 n B Q es v O (WritePart fd []) BadDescriptor (k (Some BadDescriptor)) ov free lt inv walks none (write_refused_none version h fd [] v lt (behind_none h fd v inv lt (opening_none v ov) q)) (bf BadDescriptor) pos (λ l u p own2. bad l BadDescriptor u p own2)
    at v inv ov (Some s) q =
        let z = behind h fd s v inv lt (opening_none v ov) q in
        subst (λ (o : Option Entry). Goal v (write_refused o)) (sym z.1.at) (by_cause v inv ov s z.0 z.1 (write_refused (Some z.0)) refl)

-- The lock of what a descriptor to write to names is taken.
pub s-lock-open : (version : Version) {A : Type 0} {h : ℕ} (fd i : ℕ) {k : ℕ × ℕ → P (machine version) A} {B : List Step → Type 0} {Q : A → List Step → World → Type 0} {n : ℕ} {es : List Step} {w : World} {O : Own}
    → own_of h w ≡ O → O.desk.lender ≡ None → h < hart_count → 3 < n → O.desk.opening ≡ None → ((j : ℕ) → O.inodes j ≡ None) → (key : IsWritable O fd i) → OpensFile w key.opened.slot
    → ((l offset : ℕ) (x : Node) (u : World) → l + 4 ≡ n → StandsBy u key.opened.slot i offset → OpensFile u key.opened.slot → own_of h u ≡ record O { inodes = put O.inodes i (Some (locked_held (Some x))) } → Safe (machine version) h B Q (k (i, offset)) l es u)
    → Safe (machine version) h B Q (Do (LockOpen fd i) unmarked k) n es w
s-lock-open version {A} {h} fd i {k} {B} {Q} {n} {es} {w} {O} owns free lt pos idle empty key file then_ = s-owned-from version owns free pos (λ v inv ov keeps.
    let z = writable_here h fd i v O key inv ov lt idle in
    ((locks_none h v O inv ov (λ j x q. absurd (let a = empty j in cc (a, q))), record { entry = z.0; at = entry_is h fd key.opened.slot z.0 v (slot_is h fd i v O key.opened ov) z.1; number = z.2; writable = z.3 }), (λ _ _. at v inv ov (file_stays h fd key.opened.slot w v lt key.opened.below (ap (λ (o : Own). o.desk.fds fd) owns ∙ key.opened.is) keeps file) z.0 z.1 z.2 (offset_of (entry_of v h fd)) (ap offset_of (entry_is h fd key.opened.slot z.0 v (slot_is h fd i v O key.opened ov) z.1)) (v.lock i) refl)))
  where
    at : (v : World) → Inv v → own_of h v ≡ O → OpensFile v key.opened.slot → (e : Entry) → Behind h fd key.opened.slot e v → e.file.number ≡ i → (offset : ℕ) → offset ≡ e.file.offset → (r : Option ℕ) → v.lock i ≡ r
        → Good (machine version) (ℕ × ℕ) h (λ a. []) 3 n B es v (IsOut h (v.lock i)) (with_mark version h unmarked (lock_if h i (i, offset) v (locked h i v) r)) (λ l a u. Wp (machine version) h B Q (k a) l es u)
    at v inv ov held e hit num offset is (Some g) q = is_out h i g v O inv ov (empty i) q
    at v inv ov held e hit num offset is None q =
        let there = node_there v key.opened.slot e inv hit.at in
        let node : v.all.nodes i ≡ Some there.0 = ap v.all.nodes (sym num) ∙ there.1 in
        let a = locking version h i v O ov free lt inv (empty i) (inl (record { fd = fd; below = hit.below; slot = key.opened.slot; is = hit.is; entry = e; at = hit.at; number = num })) q in
        quiet version a.fair refl pos (λ l p. (then_ l offset there.0 (locked h i v) p (record { entry = e; at = hit.at; number = num; offset_is = sym is }) (file_same key.opened.slot v (locked h i v) refl held) (a.owned ∙ (λ r. record O { inodes = put O.inodes i (Some (locked_held (node r))) }))).wp)

-- A piece: all of it, refused, or as much as there are blocks for; and the lock is given up.
pub s-write-file : (version : Version) {A : Type 0} {h : ℕ} (fd i offset : ℕ) (b : List ℕ) (x : Node) {k : Wrote → P (machine version) A} {B : List Step → Type 0} {Q : A → List Step → World → Type 0} {n : ℕ} {es : List Step} {w : World} {O : Own}
    → own_of h w ≡ O → O.desk.lender ≡ None → h < hart_count → 97 < n → O.mine.walk ≡ None → O.mine.pending ≡ None → O.desk.opening ≡ None → O.inodes i ≡ Some (locked_held (Some x)) → O.desk.joined ≡ true → (key : IsWritable O fd i) → StandsBy w key.opened.slot i offset → OpensFile w key.opened.slot → length b ≤ piece_len
    → ((c : Cause) → B (fails (WritePart fd b) c ∷ es)) → B (wrote_step fd b ∷ es)
    → ((l : ℕ) (c : Cause) (u : World) → l + 98 ≡ n → own_of h u ≡ record O { inodes = put O.inodes i None; mine = record { refs = O.mine.refs; walk = None; pending = None } } → Safe (machine version) h B Q (k (Stopped c)) l (fails (WritePart fd b) c ∷ es) u)
    → ((l j : ℕ) (u : World) → l + 98 ≡ n → u.clean ≡ false → own_of h u ≡ record O { inodes = put O.inodes i None; mine = record { refs = O.mine.refs; walk = None; pending = None }; desk = record (O.desk) { full = true } } → Safe (machine version) h B Q (k (Short j)) l es u)
    → ((l : ℕ) (u : World) → l + 98 ≡ n → OpensFile u key.opened.slot → own_of h u ≡ record O { inodes = put O.inodes i None; mine = record { refs = O.mine.refs; walk = None; pending = None } } → Safe (machine version) h B Q (k Whole) l (wrote_step fd b ∷ es) u)
    → Safe (machine version) h B Q (Do (WriteFile fd i offset b) (writes fd b) k) n es w
s-write-file version {A} {h} fd i offset b y {k} {B} {Q} {n} {es} {w} {O} owns free lt pos walks none idle isi joined key stands file short_piece bf bd bad short then_ = s-owned-from version owns free pos (λ v inv ov keeps.
    let z = writable_here h fd i v O key inv ov lt idle in
    let held = file_stays h fd key.opened.slot w v lt key.opened.below (ap (λ (o : Own). o.desk.fds fd) owns ∙ key.opened.is) keeps file in (
      (
        (locks_it h i v O (locked_held (Some y)) ov isi refl, ap (λ (o : Own). o.desk.joined) ov ∙ joined),
        record { entry = z.0; at = entry_is h fd key.opened.slot z.0 v (slot_is h fd i v O key.opened ov) z.1; number = z.2; writable = z.3 },
        stands_still h fd i offset (locked_held (Some y)) w v O key.opened owns ov lt isi keeps stands,
        record { node = y; is = has_disk h i v O (locked_held (Some y)) ov isi; fits = file_node key.opened.slot i z.0 y v inv z.1.at z.2 (has_node h i v O (locked_held (Some y)) ov isi) held },
        short_piece,
      ),
      (λ x honest. at v inv ov held x honest z.0 z.1 z.2 z.3),
    ))
  where
    Goal : World → ExecResult Wrote World → Type 0
    Goal v z = Good (machine version) Wrote h (λ a. places version h (WriteFile fd i offset b) a (writes fd b a) v) 97 n B es v ⊥ (with_mark version h (writes fd b) z) (λ l a u. Wp (machine version) h B Q (k a) l (onto (own h (places version h (WriteFile fd i offset b) a (writes fd b a) v)) es) u)

    O1 : Own
    O1 = record O { inodes = put O.inodes i None }

    piece_at : World → ℕ → Entry → List ℕ → Option Node → Bool → World
    piece_at v s e c d alone = with_offset (unlocked i (with_record v i (Some (with_bytes e.file.offset c (node_or d)))) alone) (Some s) e (length c)

    node : (v : World) → own_of h v ≡ O → v.all.nodes i ≡ Some y
    node v ov = has_node h i v O (locked_held (Some y)) ov isi

    stopped : (v : World) → Inv v → own_of h v ≡ O → (s : ℕ) (e : Entry) → Behind h fd s e v → e.file.number ≡ i → e.file.writable ≡ true → (c : Cause) → write_kind version y.kind e.file.offset b ≡ Some c → Goal v (Ran (Stopped c) (after_unlock i v))
    stopped v inv ov s e hit num writable c stops =
        fine_after version g.fair refl
        (refused_good version h 97 n B Q es (after_unlock i v) O1 (WritePart fd b) c (k (Stopped c)) g.owned free lt g.fair.inv walks none
        (write_refused_at version h fd b c (after_unlock i v) lt
        (λ res par. write_by_kind version v.all h fd b e.file (Some c) res par hit.file writable ((λ z. write_kind version (node_or (v.all.nodes (num z))).kind e.file.offset b) ∙ (λ z. write_kind version (node_or (node v ov z)).kind e.file.offset b) ∙ stops))
        (λ res par. write_by_kind version (settle v.all) h fd b e.file (Some c) res par (file_settled v.all h fd ∙ hit.file) writable ((λ z. write_kind version (node_or ((settle v.all).nodes (num z))).kind e.file.offset b) ∙ (λ z. write_kind version (node_or (settled z)).kind e.file.offset b) ∙ stops)))
        (bf c) pos (λ l u p own2. bad l c u p own2))
      where
        g : Gives h i O v
        g = gives version h i (locked_held (Some y)) O v free lt inv ov isi refl refl none

        settled : (settle v.all).nodes i ≡ Some y
        settled = subst (λ (z : ℕ). (settle v.all).nodes z ≡ v.all.nodes z) num (node_settled h fd v e s inv lt hit) ∙ node v ov

    whole : (v : World) → Inv v → own_of h v ≡ O → (s : ℕ) (e : Entry) → OpensFile (after_piece h i s e (with_bytes e.file.offset b y) b v) key.opened.slot → Behind h fd s e v → e.file.number ≡ i → e.file.writable ≡ true → write_kind version y.kind e.file.offset b ≡ None → Goal v (Ran Whole (piece_at v s e b (Some y) false))
    whole v inv ov s e after hit num writable goes =
        let a = writing version h fd i s e y b v O ov free lt inv walks none hit num isi writable goes in
        moves_good version h 97 n B Q es v (piece_at v s e b (Some y) false) (OwnMove (WritePart fd b) 0) tt (k Whole) (made_by version v.all h (new_id v) (v.harts h).walk (OwnMove (WritePart fd b) 0)) (record { all = (after_piece h i s e (with_bytes e.file.offset b y) b v).all; walk = None; found = None; opened = None; entered = None; left = None; told = (wrote_step fd b).told })
        a.made a.fair a.takes bd pos
        (λ l q. (then_ l (after_piece h i s e (with_bytes e.file.offset b y) b v) q after a.owned).wp)

    part : (v : World) → Inv v → own_of h v ≡ O → (s : ℕ) (e : Entry) → Behind h fd s e v → e.file.number ≡ i → e.file.writable ≡ true → (j : ℕ) → write_kind version y.kind e.file.offset (take j b) ≡ None → Goal v (Ran (Short j) (piece_at v s e (take j b) (Some y) false))
    part v inv ov s e hit num writable j goes =
        subst (λ (z : Made). Fine (machine version) h [] 97 n B es v (spoiled h (with_made h z (piece_at v s e (take j b) (Some y) false))) (λ l. Wp (machine version) h B Q (k (Short j)) l es (spoiled h (with_made h z (piece_at v s e (take j b) (Some y) false))))) (sym a.made)
        (spoils_fine version (fair_then a.fair f.fair) refl pos (λ l q. (short l j (spoiled h u) q refl f.owned).wp))
      where
        u : World
        u = after_piece h i s e (with_bytes e.file.offset (take j b) y) (take j b) v

        a : Writing version h fd i s e y (take j b) v O
        a = writing version h fd i s e y (take j b) v O ov free lt inv walks none hit num isi writable goes

        O2 : Own
        O2 = record O1 { mine = record { refs = O.mine.refs; walk = None; pending = None } }

        f : Flagging h u O2 (record (u.desks h) { full = true }) (record (O2.desk) { full = true }) false
        f = filling h u O2 a.owned free lt a.fair.inv

    by_cause : (v : World) → Inv v → own_of h v ≡ O → v.disk i ≡ Some y → v.alone i ≡ false → (x : Outside) → HonestPiece b x → (s : ℕ) (e : Entry) → OpensFile (after_piece h i s e (with_bytes e.file.offset b y) b v) key.opened.slot → Behind h fd s e v → e.file.number ≡ i → e.file.writable ≡ true
        → (o : Option Cause) → write_kind version y.kind e.file.offset b ≡ o → Goal v (write_if v (Some s) e i b x o)
    by_cause v inv ov disk shared x honest s e after hit num writable (Some c) stops = subst (λ (a : Bool). Goal v (Ran (Stopped c) (unlocked i v a))) (sym shared) (stopped v inv ov s e hit num writable c stops)
    by_cause v inv ov disk shared Room honest s e after hit num writable None goes =
        subst (λ (d : Option Node). Goal v (Ran Whole (piece_at v s e b d (v.alone i)))) (sym disk) (subst (λ (a : Bool). Goal v (Ran Whole (piece_at v s e b (Some y) a))) (sym shared) (whole v inv ov s e after hit num writable goes))
    by_cause v inv ov disk shared (RoomFor j) honest s e after hit num writable None goes =
        subst (λ (d : Option Node). Goal v (Ran (Short j) (piece_at v s e (take j b) d (v.alone i)))) (sym disk)
        (subst (λ (a : Bool). Goal v (Ran (Short j) (piece_at v s e (take j b) (Some y) a))) (sym shared) (part v inv ov s e hit num writable j (fewer_go version y.kind e.file.offset j b goes)))
    by_cause v inv ov disk shared (Picks j) honest s e after hit num writable None goes = absurd honest

    at : (v : World) → Inv v → own_of h v ≡ O → OpensFile v key.opened.slot → (x : Outside) → HonestPiece b x → (e : Entry) → Behind h fd key.opened.slot e v → e.file.number ≡ i → e.file.writable ≡ true → Goal v (write_at version v (slot_at v h fd) i b x (entry_of v h fd))
    at v inv ov held x honest e hit num writable =
        let disk = has_disk h i v O (locked_held (Some y)) ov isi in
        let shared : v.alone i ≡ false = ap (λ (z : Held). z.alone) (has_inode h i v O (locked_held (Some y)) ov isi).1 in
        subst (λ (o : Option ℕ). Goal v (write_at version v o i b x (entry_at v.files o))) (sym (slot_is h fd i v O key.opened ov))
        (subst (λ (o : Option Entry). Goal v (write_at version v (Some key.opened.slot) i b x o)) (sym hit.at)
        (by_cause v inv ov disk shared x honest key.opened.slot e (record { entry = entry_moved e (length b); at = put_same v.files key.opened.slot (Some (entry_moved e (length b))); inode_type = (let a : Some e ≡ Some held.entry = sym hit.at ∙ held.at in let q : e ≡ held.entry = cc in ap (λ (z : Entry). z.inode_type) q ∙ held.inode_type) }) hit num writable (write_kind version (node_or (v.disk i)).kind e.file.offset b) (λ z. write_kind version (node_or (sym disk z)).kind e.file.offset b)))
