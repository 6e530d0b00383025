-- While nobody is in a transaction the seen blocks are an image of the tree.
use Rattle.inodes_on_blocks.proofs.Vocabulary.{◌≡◌, inl, inr, ℕ, Bool, true, false, ◌||◌, if◌then◌else◌, length, is_some, Option, Some, None, refl, sym, ◌∙◌, ap, arith, subst, cases_lt, get_or_past, Super, sizes_of, Node, Hold, holds_raised, IsNamedPart, tree_of, settle, tree_in, settled_well, live_part, IsImageOf, IsTreeOf, IsRunning, seen_of, Inv, is_joined, World, log_of, disk_of, Shows, if_joined, ghost_of, on_blocks, IsQuiet, QuietWorldsAreImages, RestingWorldsAreImages}
use Rattle.plain_tree.specs.Tree.{is_live, is_named}
use Rattle.inodes_on_blocks.proofs.Basics.{live_none, quiet_image, good_seen, none_new, old_node, quiet_disk}
use Rattle.inode_machine.specs.World as above

module _ (r : World) (w : above.World) (shows : Shows r w) (inv : Inv w) (quiet : IsQuiet w) where
  -- what is on the blocks is the tree's
  node_is : (n : ℕ) → w.disk n ≡ w.all.nodes n
  node_is n = at (w.keeper n) refl
    where
      at : (o : Option ℕ) → w.keeper n ≡ o → w.disk n ≡ w.all.nodes n
      at None e = inv.whole n e
      at (Some g) e = inv.quiet n g e (quiet g (inv.kept n g e).0)

  nobody : (g : ℕ) → is_joined (log_of r).members g ≡ false
  nobody g = elim (cases_lt g 8) [
    | inl low ↦ sym (shows.members g low) ∙ quiet g low
    | inr high ↦ ap is_some (get_or_past (log_of r).members g None (let long = shows.whole.log.eight in omega (arith, long, high)))
  ]

  sizes_are : sizes_of (disk_of (log_of r)) ≡ (log_of r).sizes
  sizes_are = (good_seen (log_of r).sizes (seen_of (log_of r)) (length (log_of r).contents) shows.blocks.seen).sizes_are

  -- so no inode is new
  all_old : on_blocks r.new w.disk ≡ w.disk
  all_old = λ z n. old_node r.new w.disk n (none_new r w shows n (λ k e. let a = (shows.news n k e).joined in let b = nobody k in let q : false ≡ true = sym b ∙ a in cc q)) z

  running : IsRunning (disk_of (log_of r)) w.disk r.owner r.left (λ i. if_joined w.desks (w.lock i)) (is_joined (log_of r).members)
  running = subst (λ (nodes : ℕ → Option Node). IsRunning (disk_of (log_of r)) nodes r.owner r.left (λ i. if_joined w.desks (w.lock i)) (is_joined (log_of r).members)) all_old shows.blocks.running

  these : IsTreeOf w.all (sizes_of (disk_of (log_of r))).ninodes w.disk (is_joined (log_of r).members)
  these = record {
    numbers = shows.size ∙ ap (λ (s : Super). s.ninodes) (sym sizes_are);
    live = λ n. ap (λ (v : Option Node). live_part v) (sym (node_is n));
    raisers = λ h o lt is up. sym (shows.members h lt) ∙ inv.raised h lt (ap (λ (z : Option Hold). holds_raised true z) is ∙ up);
  }

  pub image : IsImageOf (disk_of (log_of r)) w.disk w.all
  image = quiet_image (disk_of (log_of r)) w.disk r.owner r.left (λ i. if_joined w.desks (w.lock i)) (is_joined (log_of r).members) running w.all inv.well these nobody

  -- what is live is so before and after the tree settles
  live_settled : (n : ℕ) → live_part ((settle w.all).nodes n) ≡ live_part (w.all.nodes n)
  unfolding settle
  live_settled n = by (w.all.nodes n) (is_live (w.all.nodes n)) (is_named w.all n) refl
    where
      by : (o : Option Node) (live named : Bool) → is_live o ≡ live → live_part (if live || named then o else None) ≡ live_part o
      by o true named e = refl
      by o false true e = refl
      by o false false e = sym (live_none o e)

  these_settled : IsTreeOf (settle w.all) (sizes_of (disk_of (log_of r))).ninodes w.disk (is_joined (log_of r).members)
  unfolding settle
  these_settled = record { numbers = these.numbers; live = λ n. live_settled n ∙ these.live n; raisers = these.raisers }

  pub settled : IsNamedPart (settle w.all) (tree_of (tree_in (disk_of (log_of r))))
  settled =
      (quiet_image (disk_of (log_of r)) w.disk r.owner r.left (λ i. if_joined w.desks (w.lock i)) (is_joined (log_of r).members) running (settle w.all) (settled_well w.all inv.well) these_settled nobody).named

pub quiet_worlds_are_images : QuietWorldsAreImages
quiet_worlds_are_images r w shows inv quiet = (
  image r w shows inv quiet,
  quiet_disk (log_of r).contents (log_of r).seats (log_of r).sizes (log_of r).members (ghost_of r.owner r.left (on_blocks r.new w.disk) w.lock w.desks) shows.blocks (image r w shows inv quiet).well_formed,
  settled r w shows inv quiet,
)

pub resting_worlds_are_images : RestingWorldsAreImages
resting_worlds_are_images r w shows inv idle = quiet_worlds_are_images r w shows inv (λ h lt. (idle h).joined)
