-- What an operation above is marked with changes nothing that the machine below shows.
use Rattle.inodes_on_blocks.proofs.Vocabulary.{inl, inr, ◌≡◌, ℕ, ◌<◌, Bool, true, false, List, [], ◌∷◌, Option, Some, None, refl, sym, ◌∙◌, ap, subst, if◌then◌else◌, Cause, Node, Action, OpenStep as Open, Truncate, ReadStep as Read, WritePart, Find, Bump, EnterStep as Enter, Unbump, Unlink, Mkdir, Chdir, Dup, Close, Fstat, Inherit, Hold, OpenFile, Name, Tree, put, look, elements, resolve, parent, creates, has_room, lowest, file_at, effect_with, refusal, refusal_with, path_of, hart_count, any_same, either, Walk, Move, Begin, Look, GiveUpWalk, OwnMove as Own, Desk, Mark, Makes, Frees, Orphans, Fills, Mends, Spoils, type_of, is_at, is_dead, put_elim, marked, made_by, with_made, with_opened, with_noted, with_left, spoiled, act_all, new_id, unheld, unmoved, unopened, TablesState, descriptor, first, lent_by, place_with, loaded, Ghost, AreOnBlocks, log_of, tables_of, Shows, if_joined, ghost_of, on_blocks, Loaded, IsIndexOf, Version}
use Rattle.plain_tree.specs.Steps as plain
use Rattle.inode_machine.specs.World.{World}
use Rattle.inode_machine.specs.Marks as marks
use Rattle.inodes_on_blocks.specs.ShownTables as tables
use Rattle.inodes_on_blocks.specs.Below as below
use Rattle.inodes_on_blocks.proofs.News.{new_kept}

-- ---- the tree keeps its number of inodes

at_hold_size : (t : Tree) (o : Option Hold) (f : Node → Node) → (plain.at_hold t o f).ninodes ≡ t.ninodes
at_hold_size t None f = refl
at_hold_size t (Some o) f = refl

file_size : (t : Tree) (h id n flags : ℕ) → (plain.with_file t h id n flags).ninodes ≡ t.ninodes
file_size t h id n flags = elim (either (has_room (t.fds h))) [ inl y ↦ rw y refl | inr fails ↦ rw fails refl ]

opened_at_size : (t : Tree) (h id flags : ℕ) (o : Option ℕ) (n : ℕ) → (plain.opened_at t h id flags o n).ninodes ≡ t.ninodes
opened_at_size t h id flags None n = refl
opened_at_size t h id flags (Some k) n = file_size t h id k flags

opened_in_size : (t : Tree) (h id flags d : ℕ) (e : Name) (o : Option ℕ) (n : ℕ) → (plain.opened_in t h id flags d e o n).ninodes ≡ t.ninodes
opened_in_size t h id flags d e (Some k) n = file_size t h id k flags
opened_in_size t h id flags d e None n = file_size (plain.with_nodes (plain.entered t d e n) (put (plain.entered t d e n).nodes n (Some plain.new_file))) h id n flags

opened_new_size : (t : Tree) (h id flags : ℕ) (par : Option (ℕ × Name)) (n : ℕ) → (plain.opened_new t h id flags par n).ninodes ≡ t.ninodes
opened_new_size t h id flags None n = refl
opened_new_size t h id flags (Some q) n = opened_in_size t h id flags q.0 q.1 (look t.nodes q.0 q.1) n

written_size : (t : Tree) (o : Option OpenFile) (b : List ℕ) → (plain.written t o b).ninodes ≡ t.ninodes
written_size t None b = refl
written_size t (Some f) b = refl

moved_size : (t : Tree) (o : Option ℕ) (by_ : ℕ) → (plain.moved t o by_).ninodes ≡ t.ninodes
moved_size t None by_ = refl
moved_size t (Some id) by_ = refl

wrote_size : (t : Tree) (h fd : ℕ) (b : List ℕ) → (plain.wrote t h fd b).ninodes ≡ t.ninodes
wrote_size t h fd [] = refl
wrote_size t h fd (b ∷ bs) = moved_size (plain.written t (file_at t h fd) (b ∷ bs)) (t.fds h fd) _ ∙ written_size t (file_at t h fd) (b ∷ bs)

truncated_size : (t : Tree) (o : Option OpenFile) → (plain.truncated t o).ninodes ≡ t.ninodes
truncated_size t None = refl
truncated_size t (Some f) = refl

enter_size : (t : Tree) (par : Option (ℕ × Name)) (o : Option Hold) → (plain.enter_hold t par o).ninodes ≡ t.ninodes
enter_size t None o = refl
enter_size t (Some q) None = refl
enter_size t (Some q) (Some o) = refl

child_size : (t : Tree) (d : ℕ) (e : Name) (o : Option ℕ) → (plain.removed_child t d e o).ninodes ≡ t.ninodes
child_size t d e None = refl
child_size t d e (Some n) = refl

removed_size : (t : Tree) (par : Option (ℕ × Name)) → (plain.removed t par).ninodes ≡ t.ninodes
removed_size t None = refl
removed_size t (Some q) = child_size t q.0 q.1 (look t.nodes q.0 q.1)

made_size : (t : Tree) (par : Option (ℕ × Name)) (n : ℕ) → (plain.made t par n).ninodes ≡ t.ninodes
made_size t None n = refl
made_size t (Some q) n = refl

held_size : (t : Tree) (h : ℕ) (o : Option ℕ) → (plain.held t h o).ninodes ≡ t.ninodes
held_size t h None = refl
held_size t h (Some n) = refl

dir_size : (t : Tree) (h : ℕ) (o : Option ℕ) → (plain.at_dir t h o).ninodes ≡ t.ninodes
dir_size t h None = refl
dir_size t h (Some n) = refl

effect_size : (version : Version) (t : Tree) (h : ℕ) (s : Action) (res : Option ℕ) (par : Option (ℕ × Name)) (new id : ℕ) → (effect_with version t h s res par new id).ninodes ≡ t.ninodes
unfolding effect_with
effect_size version t h (Open path flags) res par new id = elim (either (creates flags)) [ inl y ↦ rw y (opened_new_size t h id flags par new) | inr fails ↦ rw fails (opened_at_size t h id flags res new) ]
effect_size version t h (Truncate fd) res par new id = truncated_size t (file_at t h fd)
effect_size version t h (Read fd n) res par new id = moved_size t (t.fds h fd) _
effect_size version t h (WritePart fd b) res par new id = wrote_size t h fd b
effect_size version t h (Find old) res par new id = held_size t h res
effect_size version t h Bump res par new id = at_hold_size t (t.holds h) plain.raised
effect_size version t h (Enter name) res par new id = enter_size t par (t.holds h)
effect_size version t h Unbump res par new id = at_hold_size t (t.holds h) plain.lowered
effect_size version t h (Unlink path) res par new id = removed_size t par
effect_size version t h (Mkdir path) res par new id = made_size t par new
effect_size version t h (Chdir path) res par new id = dir_size t h res
effect_size version t h (Dup fd) res par new id = refl
effect_size version t h (Close fd) res par new id = refl
effect_size version t h (Fstat fd) res par new id = refl
effect_size version t h (Inherit child) res par new id = refl

act_size : (version : Version) (k : Option Cause) (b : Tree) (h : ℕ) (s : Action) (res : Option ℕ) (par : Option (ℕ × Name)) (new id : ℕ) → (act_all version k b h s res par new id).ninodes ≡ b.ninodes
act_size version (Some k) b h s res par new id = refl
act_size version None b h s res par new id = effect_size version b h s res par new id

acts_size : (version : Version) (b : Tree) (h : ℕ) (s : Action) (res : Option ℕ) (par : Option (ℕ × Name)) (new id : ℕ) → (marks.acts version b h s res par new id).all.ninodes ≡ b.ninodes
acts_size version b h s res par new id = act_size version (refusal_with version b h s res par) b h s res par new id

begun_size : (version : Version) (b : Tree) (h : ℕ) (s : Action) (es : List Name) (new id : ℕ) → (marks.begun version b h s es new id).all.ninodes ≡ b.ninodes
begun_size version b h s [] new id = acts_size version b h s _ None new id
begun_size version b h s (e ∷ es) new id = refl

looked_size : (version : Version) (b : Tree) (h : ℕ) (k : Walk) (es : List Name) (r : Option ℕ) (new id : ℕ) → (marks.looked version b h k es r new id).all.ninodes ≡ b.ninodes
looked_size version b h k [] r new id = acts_size version b h k.step r (Some (k.at, k.next)) new id
looked_size version b h k (e ∷ es) None new id = acts_size version b h k.step None None new id
looked_size version b h k (e ∷ es) (Some n) new id = refl

refused_size : (b : Tree) (h : ℕ) (s : Action) → (marks.refused_all b h s).ninodes ≡ b.ninodes
refused_size b h Bump = refl
refused_size b h (Open path flags) = refl
refused_size b h (Truncate fd) = refl
refused_size b h (Read fd n) = refl
refused_size b h (WritePart fd c) = refl
refused_size b h (Find old) = refl
refused_size b h (Enter name) = refl
refused_size b h Unbump = refl
refused_size b h (Unlink path) = refl
refused_size b h (Mkdir path) = refl
refused_size b h (Chdir path) = refl
refused_size b h (Dup fd) = refl
refused_size b h (Close fd) = refl
refused_size b h (Fstat fd) = refl
refused_size b h (Inherit child) = refl

own_size : (k : Option Cause) (b : Tree) (h : ℕ) (s : Action) (m : marks.Made) → m.all.ninodes ≡ b.ninodes → (marks.own_made k b h s m).all.ninodes ≡ b.ninodes
own_size (Some k) b h s m same = refused_size b h s
own_size None b h s m same = same

made_by_size : (version : Version) (b : Tree) (h id : ℕ) (k : Option Walk) (m : Move) → (made_by version b h id k m).all.ninodes ≡ b.ninodes
made_by_size version b h id k (Begin s new) = begun_size version b h s (elements version (path_of s)) new id
made_by_size version b h id None (Look new) = refl
made_by_size version b h id (Some k) (Look new) = looked_size version b h k k.rest (look b.nodes k.at k.next) new id
made_by_size version b h id k (GiveUpWalk s) = refl
made_by_size version b h id k (Own s new) = own_size (refusal version b h s) b h s (marks.acts version b h s (resolve version b h (path_of s)) (parent version b h (path_of s)) new id) (acts_size version b h s (resolve version b h (path_of s)) (parent version b h (path_of s)) new id)

unopened_size : (t : Tree) (h : ℕ) (o : Option ℕ) → (unopened t h o).ninodes ≡ t.ninodes
unopened_size t h None = refl
unopened_size t h (Some fd) = refl

unmoved_size : (t : Tree) (h : ℕ) (o : Option ℕ) → (unmoved t h o).ninodes ≡ t.ninodes
unmoved_size t h None = refl
unmoved_size t h (Some d) = refl

unheld_size : (t : Tree) (h : ℕ) (o : Option Hold) → (unheld t h o).ninodes ≡ t.ninodes
unheld_size t h None = refl
unheld_size t h (Some o) = by o.raised
  where
    by : (b : Bool) → (if b then t else plain.drop_hold t h).ninodes ≡ t.ninodes
    by true = refl
    by false = refl

-- ---- what the code has of the world stays

pub record SameDesk (d e : Desk) : Type 0 where
  pub fds : e.fds ≡ d.fds
  pub hand : e.hand ≡ d.hand
  pub joined : e.joined ≡ d.joined
  pub directory : e.directory ≡ d.directory
  pub lent : e.lent ≡ d.lent
  pub lender : e.lender ≡ d.lender

pub record SameCode (v w : World) : Type 0 where
  pub disk : w.disk ≡ v.disk
  pub lock : w.lock ≡ v.lock
  pub refs : w.refs ≡ v.refs
  pub files : w.files ≡ v.files
  pub keeper : w.keeper ≡ v.keeper
  pub desks : (g : ℕ) → SameDesk (v.desks g) (w.desks g)
  pub size : w.all.ninodes ≡ v.all.ninodes

same_desk : (d : Desk) → SameDesk d d
same_desk d = record { fds = refl; hand = refl; joined = refl; directory = refl; lent = refl; lender = refl }

then_desk : (d e f : Desk) → SameDesk d e → SameDesk e f → SameDesk d f
then_desk d e f a b = record { fds = b.fds ∙ a.fds; hand = b.hand ∙ a.hand; joined = b.joined ∙ a.joined; directory = b.directory ∙ a.directory; lent = b.lent ∙ a.lent; lender = b.lender ∙ a.lender }

put_desk : (desks : ℕ → Desk) (h : ℕ) (new : Desk) → SameDesk (desks h) new → (g : ℕ) → SameDesk (desks g) (put desks h new g)
put_desk desks h new s g = put_elim desks h new g (SameDesk (desks g)) (λ e. subst (λ (z : ℕ). SameDesk (desks z) new) (sym e) s) (λ ne. same_desk (desks g))

opened_desk : (desks : ℕ → Desk) (h fd : ℕ) (o : Option ℕ) (g : ℕ) → SameDesk (desks g) (with_opened desks h fd o g)
opened_desk desks h fd None g = same_desk (desks g)
opened_desk desks h fd (Some id) g = put_desk desks h (record (desks h) { opening = Some fd }) (record { fds = refl; hand = refl; joined = refl; directory = refl; lent = refl; lender = refl }) g

noted_desk : (b : Tree) (desks : ℕ → Desk) (h : ℕ) (o : Option ℕ) (g : ℕ) → SameDesk (desks g) (with_noted b desks h o g)
noted_desk b desks h None g = same_desk (desks g)
noted_desk b desks h (Some n) g = put_desk desks h (record (desks h) { noted = Some (record { number = n; inode_type = type_of (b.nodes n) }) }) (record { fds = refl; hand = refl; joined = refl; directory = refl; lent = refl; lender = refl }) g

left_desk : (desks : ℕ → Desk) (h : ℕ) (o : Option ℕ) (g : ℕ) → SameDesk (desks g) (with_left desks h o g)
left_desk desks h None g = same_desk (desks g)
left_desk desks h (Some d) g = put_desk desks h (record (desks h) { left = Some d }) (record { fds = refl; hand = refl; joined = refl; directory = refl; lent = refl; lender = refl }) g

made_same : (version : Version) (h : ℕ) (m : Move) (w : World) → SameCode w (with_made h (made_by version w.all h (new_id w) (w.harts h).walk m) w)
made_same version h m w =
    let x = made_by version w.all h (new_id w) (w.harts h).walk m in
    let a = with_opened w.desks h (lowest (w.all.fds h)) x.opened in
    let b = with_noted w.all a h x.found in
    record {
      disk = refl;
      lock = refl;
      refs = refl;
      files = refl;
      keeper = refl;
      desks = λ g. then_desk (w.desks g) (b g) (with_left b h x.left g) (then_desk (w.desks g) (a g) (b g) (opened_desk w.desks h (lowest (w.all.fds h)) x.opened g) (noted_desk w.all a h x.found g)) (left_desk b h x.left g);
      size = made_by_size version w.all h (new_id w) (w.harts h).walk m;
    }

full_same : (h : ℕ) (w : World) → SameCode w (spoiled h w)
full_same h w = record { disk = refl; lock = refl; refs = refl; files = refl; keeper = refl; desks = put_desk w.desks h (record (w.desks h) { full = true }) (record { fds = refl; hand = refl; joined = refl; directory = refl; lent = refl; lender = refl }); size = refl }

then_same : (u v w : World) → SameCode u v → SameCode v w → SameCode u w
then_same u v w a b = record { disk = b.disk ∙ a.disk; lock = b.lock ∙ a.lock; refs = b.refs ∙ a.refs; files = b.files ∙ a.files; keeper = b.keeper ∙ a.keeper; desks = λ g. then_desk (u.desks g) (v.desks g) (w.desks g) (a.desks g) (b.desks g); size = b.size ∙ a.size }

pub marked_same : (version : Version) (h : ℕ) (m : Option Mark) (w : World) → SameCode w (marked version h m w)
marked_same version h None w = record { disk = refl; lock = refl; refs = refl; files = refl; keeper = refl; desks = λ g. same_desk (w.desks g); size = refl }
marked_same version h (Some (Makes v)) w = made_same version h v w
marked_same version h (Some (Frees n)) w = record { disk = refl; lock = refl; refs = refl; files = refl; keeper = refl; desks = λ g. same_desk (w.desks g); size = refl }
marked_same version h (Some (Orphans n)) w = record { disk = refl; lock = refl; refs = refl; files = refl; keeper = refl; desks = λ g. same_desk (w.desks g); size = refl }
marked_same version h (Some Fills) w = full_same h w
marked_same version h (Some Mends) w = record {
  disk = refl;
  lock = refl;
  refs = refl;
  files = refl;
  keeper = refl;
  desks = put_desk w.desks h (record (w.desks h) { opening = None; left = None; full = true }) (record { fds = refl; hand = refl; joined = refl; directory = refl; lent = refl; lender = refl });
  size = unheld_size (unmoved (unopened w.all h (w.desks h).opening) h (w.desks h).left) h (w.all.holds h) ∙ unmoved_size (unopened w.all h (w.desks h).opening) h (w.desks h).left ∙ unopened_size w.all h (w.desks h).opening;
}
marked_same version h (Some (Spoils s)) w =
    let u = with_made h (made_by version w.all h (new_id w) (w.harts h).walk (Own s 0)) w in
    then_same w u (spoiled h u) (made_same version h (Own s 0) w) (full_same h u)

-- ---- what is shown

descriptor_same : (v w : World) → SameCode v w → (g i : ℕ) → descriptor w.desks g i ≡ descriptor v.desks g i
descriptor_same v w s g i =
    (λ z. first ((s.desks g).fds z i) (lent_by w.desks ((s.desks g).lender z) i)) ∙ ap (first ((v.desks g).fds i)) (by (v.desks g).lender)
  where
    by : (o : Option ℕ) → lent_by w.desks o i ≡ lent_by v.desks o i
    by None = refl
    by (Some l) = λ z. (s.desks l).lent z i

pub tables_marked : (t : TablesState) (v w : World) (load : ℕ → Option Loaded) → SameCode v w → tables.Shows t v load → tables.Shows t w load
tables_marked t v w load s shows = record {
  sound = shows.sound;
  places = record {
    counts = λ n. (λ z. s.refs z n) ∙ shows.places.counts n;
    holders = λ n. (λ z. s.lock z n) ∙ shows.places.holders n;
    loads = shows.places.loads;
  };
  files = λ k lt. shows.files k lt ∙ (λ z. Some (place_with (sym (any_same hart_count (λ g. is_at (w.desks g).hand k) (λ g. is_at (v.desks g).hand k) (λ g lg. ap (λ (o : Option ℕ). is_at o k) (s.desks g).hand)) z) (sym s.files z k)));
  desks = λ g lt. let d = shows.desks g lt in (
    d.0,
    d.1,
    record {
      long = d.2.long;
      descriptors = λ i l. d.2.descriptors i l ∙ ap (λ (o : Option ℕ). Some o) (sym (descriptor_same v w s g i));
      directory = d.2.directory ∙ sym (s.desks g).directory;
      hand = d.2.hand ∙ sym (s.desks g).hand;
    },
  );
  lenders = λ g l e. shows.lenders g l (sym (s.desks g).lender ∙ e);
  range = λ n lt. let r = shows.range n (subst (λ (z : ℕ). 0 < z) (λ z. s.refs z n) lt) in (r.0, subst (λ (z : ℕ). n < z) (sym s.size) r.1);
}

pub shows_marked : (r : below.World) (v w : World) → SameCode v w → Shows r v → Shows r w
shows_marked r v w s shows = record {
  whole = shows.whole;
  runs = shows.runs;
  size = s.size ∙ shows.size;
  tables = tables_marked (tables_of r) v w (loaded (tables_of r)) s shows.tables;
  members = λ g lt. (s.desks g).joined ∙ shows.members g lt;
  blocks = subst (λ (x : Ghost). AreOnBlocks (log_of r).contents (log_of r).seats (log_of r).sizes (log_of r).members x) (sym ghost) shows.blocks;
  bytes = shows.bytes;
  taken = shows.taken;
  commit = shows.commit;
  news = λ n k e. let is = shows.news n k e in new_kept n k (log_of r) v.lock v.keeper w.lock w.keeper (loaded (tables_of r)) (loaded (tables_of r)) ((λ z. s.lock z n) ∙ is.unlocked) ((λ z. s.keeper z n) ∙ is.kept) is.unloaded is;
  loads = record {
    seen = shows.loads.seen;
    dead = λ n lt free loose dead. shows.loads.dead n (subst (λ (z : ℕ). 0 < z) (λ z. s.refs z n) lt) ((λ z. sym s.lock z n) ∙ free) ((λ z. sym s.keeper z n) ∙ loose) (ap (λ (f : ℕ → Option Node). is_dead (f n)) (sym s.disk) ∙ dead);
    typed = λ n e. shows.loads.typed n ((λ z. sym s.disk z n) ∙ e);
    indexed = λ n d e. subst (IsIndexOf (log_of r).sizes.version d.index) (λ z. sym s.disk z n) (shows.loads.indexed n d e);
  };
  offsets = λ k e at. shows.offsets k e ((λ z. sym s.files z k) ∙ at);
}
  where
    change : (o : Option ℕ) → if_joined w.desks o ≡ if_joined v.desks o
    change None = refl
    change (Some g) = ap (λ (b : Bool). if b then Some g else None) (s.desks g).joined

    ghost : ghost_of r.owner r.left (on_blocks r.new w.disk) w.lock w.desks ≡ ghost_of r.owner r.left (on_blocks r.new v.disk) v.lock v.desks
    ghost = λ z. record { nodes = on_blocks r.new (s.disk z); owner = r.owner; left = r.left; changing = λ i. ((λ y. if_joined w.desks (s.lock y i)) ∙ change (v.lock i)) z }
