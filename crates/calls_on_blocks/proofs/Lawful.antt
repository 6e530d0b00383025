-- The calls that are served are right below.
use Rattle.calls_on_blocks.proofs.Vocabulary.{◌≡◌, ◌<◌, ℕ, Bool, true, false, not, nat_lt, length, if◌then◌else◌, Option, Some, None, refl, ◌∙◌, subst, arith, [], Super, Version, Call, creates, elements, put, hart_count, and_true, ExecResult, Waits, Ran, Stops, exec_result_in, Began, Begun, Ends, Lawful, Safe, IsCode, began_in, Both, AllLift, IsStarted, IsPart, lift_within, lifted_lawful, is_code_part, Kind, unspent, is_nothing, open_program, limit, program, Idle, Inv, machine, asked_limit, Refusal, TooLong, asks_wrong, is_covered, transactions_are_small, IsRight, laws, lawful_that, descriptors_right, right, chdir_begins, chdir_ok, create_ok, inherit_right, link_begins, link_ok, mkdir_begins, mkdir_ok, AllNames, both_paths, path_names, open_ok, open_begins, start_is, unlink_begins, unlink_ok, Blocks, came_to, log_of, nothing, HasInodes, HasSpent, Shows, recorded_blocks, affords, none_spent, handlers, SharedState, World, layer, shared_of, is_served, serves, served_calls, child_of, start_refusal, begun_by, if_hart, begins, block_calls, shared_part, block_code}
use Rattle.plain_tree.specs.declared.call.Call.TheVariants as calls
use Rattle.fs_machine.specs.Steps as steps
use Rattle.inode_machine.specs.World as above
use Rattle.calls_on_blocks.proofs.Operations.{history}
use Rattle.calls_on_blocks.proofs.Uses.{served_uses}
use Rattle.calls_on_blocks.proofs.Starting.{begun_here, below_count, joined_same, lower_laws, starts_both}

-- ---- above

pub served_is : (call : Call) → serves call ≡ true → is_served call ≡ true
served_is call e = (and_true (is_covered call) (is_served call) e).1

-- no more is asked for than may be
asks_few : (n : ℕ) → is_nothing (asks_wrong n) ≡ true → not (nat_lt asked_limit n) ≡ true
asks_few n e = by (nat_lt asked_limit n) e
  where
    by : (b : Bool) → is_nothing (if b then Some TooLong else None) ≡ true → not b ≡ true
    by true e = absurd cc
    by false e = refl

covered_is : (call : Call) → serves call ≡ true → is_covered call ≡ true
covered_is call e = (and_true (is_covered call) (is_served call) e).0

served_right : (v : Version) → IsRight v serves serves
served_right v h (calls.Dup fd) busy w u lt here out idle free is = descriptors_right v serves h (calls.Dup fd) busy w u lt refl out idle free is
served_right v h (calls.Fstat fd) busy w u lt here out idle free is = descriptors_right v serves h (calls.Fstat fd) busy w u lt refl out idle free is
served_right v h (calls.Close fd) busy w u lt here out idle free is = descriptors_right v serves h (calls.Close fd) busy w u lt refl out idle free is
served_right v h (calls.Read fd buffer) busy w u lt here out idle free is = descriptors_right v serves h (calls.Read fd buffer) busy w u lt (asks_few (length buffer) (and_true (is_covered (calls.Read fd buffer)) true here).0) out idle free is
served_right v h (calls.Open path flags) busy w u lt here out idle free is =
    right v serves h (calls.Open path flags) busy w u idle free is (open_begins v path flags) (λ holds i. by_flag (creates flags) refl holds i)
  where
    named : AllNames v (elements v path)
    named = path_names v path (covered_is (calls.Open path flags) here)

    by_flag : (b : Bool) → creates flags ≡ b → Inv u → Idle h u → Safe (machine v) h (Begun (served_calls v) (calls.Open path flags)) (Ends (served_calls v) h (calls.Open path flags)) (open_program v path flags) (limit v (calls.Open path flags)) [] u
    by_flag false old holds i = open_ok v h path flags u out lt holds i old named
    by_flag true new holds i = create_ok v h path flags u holds out lt i new named
served_right v h (calls.Write fd bytes) busy w u lt here out idle free is = descriptors_right v serves h (calls.Write fd bytes) busy w u lt refl out idle free is
served_right v h (calls.Link old new) busy w u lt here out idle free is =
    right v serves h (calls.Link old new) busy w u idle free is (link_begins v old new)
    (λ holds i. let two = both_paths old new (covered_is (calls.Link old new) here) in link_ok v h old new u out lt holds i (path_names v old two.0) (path_names v new two.1))
served_right v h (calls.Unlink path) busy w u lt here out idle free is =
    right v serves h (calls.Unlink path) busy w u idle free is (unlink_begins v path) (λ holds i. unlink_ok v h path u holds out lt i (path_names v path (covered_is (calls.Unlink path) here)))
served_right v h (calls.Mkdir path) busy w u lt here out idle free is =
    right v serves h (calls.Mkdir path) busy w u idle free is (mkdir_begins v path) (λ holds i. mkdir_ok v h path u holds out lt i (path_names v path (covered_is (calls.Mkdir path) here)))
served_right v h (calls.Chdir path) busy w u lt here out idle free is =
    right v serves h (calls.Chdir path) busy w u idle free is (chdir_begins v path) (λ holds i. chdir_ok v h path u out lt holds i (path_names v path (covered_is (calls.Chdir path) here)))
served_right v h (calls.Inherit child) busy w u lt here out idle free is =
    let r = inherit_right v h child busy w u lt out idle free is in
    record { inv = r.inv; halted = r.halted; kept = r.kept; rests = r.rests; tree = r.tree; clean = r.clean; none = r.none; runs = r.runs }

pub served_lawful : (v : Version) → Lawful (served_calls v)
served_lawful v = lawful_that v serves (served_right v)

-- ---- below

-- a call begins in no transaction, so that nothing is spent
none_yet : (sizes : Super) (h : ℕ) (call : Call) (w : Both World above.World) → h < hart_count → (log_of w.real.blocks).sizes ≡ sizes → IsStarted (served_calls sizes.version) (layer sizes) h call w → HasSpent sizes h unspent w.real.blocks
none_yet sizes h call w lt at from =
    none_spent sizes h w.real.blocks w.seen lt from.shows.0 (joined_same h call from.busy from.before w.seen lt from.idle (start_is serves h call from.busy from.before w.seen from.begins).begins ∙ from.idle.joined) at

-- the disk is one with inodes, as its blocks show
has_inodes : (sizes : Super) (r : Blocks) (w : above.World) → Shows r w → (log_of r).sizes ≡ sizes → HasInodes sizes
has_inodes sizes r w shows at =
    let some = shows.blocks.seen.good.few_inodes in
    let few = shows.blocks.seen.good.many_inodes in
    subst HasInodes at (record { some = omega (arith, some); few = omega (arith, few) })

-- no call's transactions spend more than they may
all_lift : (sizes : Super) → AllLift (served_calls sizes.version) (layer sizes) (handlers sizes) (begins sizes)
all_lift sizes h call can B Q lasts n es w from todo base inv =
    let t : World = record (can.1) { children = put can.1.children h (child_of call) } in
    let b = begun_here h call can.0 (shared_of can.1) t can.2 can.3 in
    let lt = below_count h b.hart in
    lift_within (machine sizes.version) (layer sizes) (handlers sizes) (laws sizes.version) h (recorded_blocks sizes.version (history sizes.version)) (λ r s. HasSpent sizes h s r.blocks) (program sizes.version call) (served_uses sizes h lt (has_inodes sizes w.real.blocks w.seen from.shows.0 base.1) call (served_is call b.serves_it)) unspent (affords sizes.version (history sizes.version) (program sizes.version call) unspent (transactions_are_small sizes.version call)) nothing
    B Q lasts n es w (none_yet sizes h call w lt base.1 from) todo base inv

pub lawful : (sizes : Super) → Lawful (block_calls sizes)
lawful sizes = lifted_lawful (served_calls sizes.version) (layer sizes) (handlers sizes) (begins sizes) (served_lawful sizes.version) (lower_laws sizes) (starts_both sizes) (all_lift sizes)

-- ---- the code's part

is_part : (sizes : Super) → IsPart (served_calls sizes.version) (layer sizes) (begins sizes) (shared_part sizes)
is_part sizes = record {
  goes = λ h x op w. goes h op w (steps.exec h x op w.blocks.state);
  may = λ h op w y. y;
  honest = λ h op w x y. y;
  starts = λ h call busy w. starts w (put w.children h (child_of call)) (nat_lt h hart_count) (start_refusal h call busy (shared_of w));
}
  where
    goes : (h : ℕ) (op : steps.Op) (w : World) (d : ExecResult (steps.Answer op) steps.State) → exec_result_in (λ (t : steps.State). record (shared_of w) { state = t }) d ≡ exec_result_in shared_of (exec_result_in (λ (v : Blocks). record w { blocks = v }) (came_to h op w.blocks d))
    goes h op w Waits = refl
    goes h op w (Ran a s) = refl
    goes h op w (Stops s) = refl

    starts : (w : World) (children : ℕ → Option ℕ) (b : Bool) (o : Option Refusal)
        → ◌≡◌ {A = Began Refusal SharedState} (if_hart b (begun_by (record (shared_of w) { children = children }) o)) (began_in shared_of (if_hart b (begun_by (record w { children = children }) o)))
    starts w children false o = refl
    starts w children true None = refl
    starts w children true (Some why) = refl

pub is_code : (sizes : Super) → IsCode (block_calls sizes) (block_code sizes)
is_code sizes = is_code_part (served_calls sizes.version) (layer sizes) (handlers sizes) (begins sizes) (shared_part sizes) Kind steps.kind_of (is_part sizes)
