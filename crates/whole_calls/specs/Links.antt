-- The rest of a link.
use Rattle.std.specs.Prelude.{◌≡◌, ◌≤◌, ℕ, ◌+◌, ◌-◌, List, [], length, Option, Some, None, if◌then◌else◌}
use Rattle.whole_calls.specs.Vocabulary.{Name, elements, NoEntry, IsDirectory, Reply, Action, Do, name_in, IsElement, Face, is_directory_type, Store, Enter, P, own_step, failed, done, drop, give_up, tail, stopped, bump_refused, enters, link_at, link_in, link_name, link_program, link_raise, lower, named_on, face_of, reply_to, After, Stands, most_left, walk_of, Element, Walk}
use Rattle.image_versions.specs.declared.version.Version.{Version}
use Rattle.plain_tree.specs.declared.call.Call.TheVariants as calls
use Rattle.plain_tree.specs.declared.step.Action.TheVariants as steps
use Rattle.whole_calls.specs.Calls.{most_listed}
use Rattle.whole_calls.specs.Ends.{dropping_of, ending_of}
use Rattle.whole_calls.specs.declared.link.Link.{Link}
use Rattle.whole_calls.specs.declared.link.Link.TheVariants as linking
use Rattle.path_walk.specs.declared.walk.Goal.TheVariants as goal

pub data LinkStage : Type 0 where
  Fresh : LinkStage
  WalksOld : Walk → LinkStage
  Between : LinkStage
  WalksNew : Walk → LinkStage
  Names : Element → LinkStage
  Past : LinkStage

abbrev pub link_stage : Link → LinkStage
link_stage linking.Join = Fresh
link_stage (linking.WalksOld w) = WalksOld w
link_stage (linking.Take n) = Between
link_stage (linking.Raise n f) = Between
link_stage (linking.UnlockInode n) = Between
link_stage (linking.WalksNew w n) = WalksNew w
link_stage (linking.Look d e n) = Names e
link_stage (linking.Enter d e n) = Names e
link_stage c = Past

module _ (old new : List ℕ) where
  abbrev pub link_found_in : ℕ → ℕ → Option Name → List ℕ → P Reply
  link_found_in n d None ns = lower old new n (failed (calls.Link old new) NoEntry) ns
  link_found_in n d (Some e) ns = link_in old new n d e ns

  abbrev pub new_after : ℕ → After
  new_after n = record { found = link_found_in n; lost = λ why ns. lower old new n (stopped (calls.Link old new) why) ns }

  abbrev pub lowers : ℕ → Face → Reply → List ℕ → P Reply
  lowers n f r ns = Do (Store n (f.count - 1)) (λ _. own_step steps.Unbump) (λ _. give_up n (tail ns r))

  -- the tree step for which it walks
  abbrev pub link_action : Link → Action
  link_action linking.Join = steps.Find old
  link_action (linking.WalksOld w) = steps.Find old
  link_action c = steps.Enter new

module _ (v : Version) (old new : List ℕ) where
  abbrev pub old_after : After
  old_after = record { found = λ n e ns. link_at v old new n ns; lost = λ why ns. tail ns (stopped (calls.Link old new) why) }

  -- what is to get the name was seen
  abbrev pub took : ℕ → List ℕ → Face → P Reply
  took n ns f = if is_directory_type f.inode_type then give_up n (tail ns (failed (calls.Link old new) IsDirectory))
      else link_raise v old new n ns f (bump_refused f)

  abbrev pub link_of : List ℕ → Link → P Reply
  link_of ns linking.Join = link_program v old new
  link_of ns (linking.WalksOld w) = walk_of v (steps.Find old) old old_after goal.Inside ns w
  link_of ns (linking.Take n) = link_at v old new n ns
  link_of ns (linking.Raise n f) = Do (Store n (f.count + 1)) (λ _. own_step steps.Bump) (λ _. link_name old new n ns (elements v new))
  link_of ns (linking.UnlockInode n) = link_name old new n ns (elements v new)
  link_of ns (linking.WalksNew w n) = walk_of v (steps.Enter new) new (new_after old new n) goal.Parent ns w
  link_of ns (linking.Look d e n) = link_in old new n d (name_in new e) ns
  link_of ns (linking.Enter d e n) = Do (Enter d (name_in new e) n) enters (named_on old new n d ns)
  link_of ns (linking.GiveNamed d n) = dropping_of (drop n (tail ns (done (calls.Link old new)))) d
  link_of ns (linking.GiveFailed d n a) = dropping_of (lower old new n (reply_to (calls.Link old new) a) ns) d
  link_of ns (linking.TakeRaised n a) = lower old new n (reply_to (calls.Link old new) a) ns
  link_of ns (linking.Lower n f a) = lowers old new n (face_of f) (reply_to (calls.Link old new) a) ns
  link_of ns (linking.Ends e) = ending_of (calls.Link old new) ns e

  -- where it is: at its beginning, on the old path, between the two, on the new one, at the name that is entered there, or past that
  abbrev pub LinkFits : List ℕ → LinkStage → Type 0
  LinkFits ns Fresh = (ns ≡ []) × (length (elements v old) + length (elements v new) ≤ most_listed)
  LinkFits ns (WalksOld w) = Stands v old w × (length ns + most_left v old w + length (elements v new) ≤ most_listed)
  LinkFits ns Between = length ns + length (elements v new) ≤ most_listed
  LinkFits ns (WalksNew w) = Stands v new w × (length ns + most_left v new w ≤ most_listed)
  LinkFits ns (Names e) = IsElement v new e
  LinkFits ns Past = Unit {0}
