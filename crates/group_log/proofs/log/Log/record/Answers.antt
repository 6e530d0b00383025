use Rattle.group_log.proofs.Lemmas.{◌≡◌, ◌≢◌, ◌∙◌, ap, refl, sym, subst, ℕ, List, Option, Some, None, IfSome, true, false, arith, BufferState, SeatState, CacheState, with_seat, with_content, with_pin, given_back, IsHeld, Phase, Open, Halted, has, with_block, members_with, HasRoom, IsMember, LogState, IsHome, IsSoundLog, member_below, same_cache, open_of, room_to_add, room_to_pin, pinned_by_pin, recorded_all, open_move, slots_open, slots_recorded}
use Rattle.group_log.proofs.log.Log.record.Goals as goal

pub add-requires-clause-within : goal.add-requires-clause-within
add-requires-clause-within g c =
    let l = c.self.inside in
    let member : IsMember l.members c.args.txn.now = subst (λ v. IsMember v.members c.args.txn.now) (sym c.self.view_is) c.requires.member in
    let below = member_below l.members c.args.txn.now member in
    let is : c.hart.result ≡ c.args.txn.now = c.hart.ensures in
    omega (arith, below, is, c.self.invariant.log.eight)

pub add-requires-clause-room : goal.add-requires-clause-room
add-requires-clause-room g c =
    let l = c.self.inside in
    let d = g.D.Device.contents l.cache.device in
    let member : IsMember l.members c.args.txn.now = subst (λ v. IsMember v.members c.args.txn.now) (sym c.self.view_is) c.requires.member in
    let running : l.phase ≢ Halted = subst (λ v. v.phase ≢ Halted) (sym c.self.view_is) c.requires.running in
    let is_open : l.phase ≡ Open = open_of l.phase l.members c.args.txn.now c.self.invariant.log.quiet running member in
    let sound : IsSoundLog d l.cache.seats l.sizes l.group.items l.members Open = subst (λ (p : Phase). IsSoundLog d l.cache.seats l.sizes l.group.items l.members p) is_open c.self.invariant.log in
    let b : c.block-b.result ≡ c.args.guard.value.block = c.block-b.ensures ∙ ap (λ (x : BufferState). x.block) c.value.ensures in
    let has_room : has l.group.items c.args.guard.value.block ≡ false → HasRoom l.members c.args.txn.now = subst (λ v. has v.group c.args.guard.value.block ≡ false → HasRoom v.members c.args.txn.now) (sym c.self.view_is) c.requires.room in
    λ isnt.
    let room = has_room (ap (λ (k : ℕ). has l.group.items k) (sym b) ∙ isnt) in
    (subst (λ (h : ℕ). HasRoom l.members h) (sym c.hart.ensures) room, room_to_add d l.cache.seats l.sizes l.group.items l.members c.block-b.result c.args.txn.now sound room)

pub pin-requires-clause-room : goal.pin-requires-clause-room
pin-requires-clause-room g c =
    let l = c.self.inside in
    let d = g.D.Device.contents l.cache.device in
    let member : IsMember l.members c.args.txn.now = subst (λ v. IsMember v.members c.args.txn.now) (sym c.self.view_is) c.requires.member in
    let running : l.phase ≢ Halted = subst (λ v. v.phase ≢ Halted) (sym c.self.view_is) c.requires.running in
    let is_open : l.phase ≡ Open = open_of l.phase l.members c.args.txn.now c.self.invariant.log.quiet running member in
    let sound : IsSoundLog d l.cache.seats l.sizes l.group.items l.members Open = subst (λ (p : Phase). IsSoundLog d l.cache.seats l.sizes l.group.items l.members p) is_open c.self.invariant.log in
    let has_room : has l.group.items c.args.guard.value.block ≡ false → HasRoom l.members c.args.txn.now = subst (λ v. has v.group c.args.guard.value.block ≡ false → HasRoom v.members c.args.txn.now) (sym c.self.view_is) c.requires.room in
    room_to_pin d l.cache.seats l.sizes l.group.items l.members c.args.guard.value.block c.args.txn.now sound has_room

pub release_changed-requires-clause-pinned : goal.release_changed-requires-clause-pinned
release_changed-requires-clause-pinned g c =
    let l = c.self.inside in
    let held : IsHeld l.cache.seats c.args.guard = subst (λ v. IsHeld v.cache.seats c.args.guard) (sym c.self.view_is) c.requires.held in
    pinned_by_pin c.args.guard.value.block c.args.guard.value.block l.cache.seats c.pin.new.self.seats c.args.guard refl refl held c.pin.ensures.seats

pub invariant_of-self : goal.invariant_of-self
invariant_of-self g c =
    let l = c.self.inside in
    let d = g.D.Device.contents l.cache.device in
    let member : IsMember l.members c.args.txn.now = subst (λ v. IsMember v.members c.args.txn.now) (sym c.self.view_is) c.requires.member in
    let running : l.phase ≢ Halted = subst (λ v. v.phase ≢ Halted) (sym c.self.view_is) c.requires.running in
    let is_open : l.phase ≡ Open = open_of l.phase l.members c.args.txn.now c.self.invariant.log.quiet running member in
    let sound : IsSoundLog d l.cache.seats l.sizes l.group.items l.members Open = subst (λ (p : Phase). IsSoundLog d l.cache.seats l.sizes l.group.items l.members p) is_open c.self.invariant.log in
    let b : c.block-b.result ≡ c.args.guard.value.block = c.block-b.ensures ∙ ap (λ (x : BufferState). x.block) c.value.ensures in
    let pinned : c.pin.new.self.seats ≡ with_seat c.block-b.result (with_pin true) l.cache.seats = c.pin.ensures.seats ∙ ap (λ (k : ℕ). with_seat k (with_pin true) l.cache.seats) (sym b) in
    let held : IsHeld l.cache.seats c.args.guard = subst (λ v. IsHeld v.cache.seats c.args.guard) (sym c.self.view_is) c.requires.held in
    let home : IsHome d l.sizes c.args.guard.value.block = subst (λ v. IsHome (g.D.Device.contents v.cache.device) v.sizes c.args.guard.value.block) (sym c.self.view_is) c.requires.home in
    let has_room : has l.group.items c.args.guard.value.block ≡ false → HasRoom l.members c.args.txn.now = subst (λ v. has v.group c.args.guard.value.block ≡ false → HasRoom v.members c.args.txn.now) (sym c.self.view_is) c.requires.room in
    record {
      log = subst (λ (p : Phase). IsSoundLog (g.D.Device.contents c.release_changed.new.self.device) c.release_changed.new.self.seats l.sizes c.add.new.group.items c.add.new.members p) (sym is_open)
          (recorded_all d (g.D.Device.contents c.pin.new.self.device) (g.D.Device.contents c.release_changed.new.self.device) l.cache.seats c.pin.new.self.seats c.release_changed.new.self.seats l.sizes l.group.items c.add.new.group.items l.members c.add.new.members c.block-b.result c.args.txn.now c.hart.result c.args.guard
          c.show_each_once.ensures sound held c.requires.valid has_room home b c.hart.ensures c.add.ensures.group c.add.ensures.members
          (ap g.D.Device.contents c.pin.ensures.device) pinned c.pin.ensures.seen
          (ap g.D.Device.contents c.release_changed.ensures.device) c.release_changed.ensures.seats c.release_changed.ensures.seen);
      placed = slots_open l.cache.seats c.release_changed.new.self.seats l.group.items c.add.new.group.items l.slots.items c.add.new.slots.items l.phase is_open
          (slots_recorded l.cache.seats c.pin.new.self.seats c.release_changed.new.self.seats l.group.items c.add.new.group.items l.slots.items c.add.new.slots.items c.block-b.result c.number.result c.args.guard
          c.show_each_once.ensures held c.requires.valid b c.number.ensures c.add.ensures.group c.add.ensures.slots pinned c.release_changed.ensures.seats)
          c.self.invariant.placed;
    }

pub returns-clause-open : goal.returns-clause-open
returns-clause-open g c =
    let l = c.self.inside in
    let member : IsMember l.members c.args.txn.now = subst (λ v. IsMember v.members c.args.txn.now) (sym c.self.view_is) c.requires.member in
    let running : l.phase ≢ Halted = subst (λ v. v.phase ≢ Halted) (sym c.self.view_is) c.requires.running in
    let is_open : l.phase ≡ Open = open_of l.phase l.members c.args.txn.now c.self.invariant.log.quiet running member in
    (ap (λ v. v.phase) (sym c.self.view_is) ∙ is_open, is_open)

pub returns-clause-moves : goal.returns-clause-moves
returns-clause-moves g c =
    let l = c.self.inside in
    let member : IsMember l.members c.args.txn.now = subst (λ v. IsMember v.members c.args.txn.now) (sym c.self.view_is) c.requires.member in
    let running : l.phase ≢ Halted = subst (λ v. v.phase ≢ Halted) (sym c.self.view_is) c.requires.running in
    let is_open : l.phase ≡ Open = open_of l.phase l.members c.args.txn.now c.self.invariant.log.quiet running member in
    open_move g.D.Device.contents c.args.self.now _ (ap (λ v. v.sizes) c.self.view_is)
    (ap g.D.Device.contents (c.release_changed.ensures.device ∙ c.pin.ensures.device) ∙ ap (λ v. g.D.Device.contents v.cache.device) c.self.view_is)
    (ap (λ v. v.phase) (sym c.self.view_is) ∙ is_open) is_open

records_as : {D : Type 0} (v : LogState D) (z : CacheState D) (mid : List SeatState) (ks : List ℕ) (ms : List (Option ℕ)) (k b h hart : ℕ) (content : Option (List ℕ)) → k ≡ b → h ≡ hart
    → z.device ≡ v.cache.device → mid ≡ with_seat k (with_pin true) v.cache.seats → IfSome content (λ bytes. z.seats ≡ given_back b (with_seat b (with_content bytes) mid))
    → ks ≡ with_block v.group k → ms ≡ members_with v.group k v.members h
    → IfSome content (λ bytes. record v { cache = z; group = ks; members = ms } ≡ record v {
      cache = record v.cache { seats = given_back b (with_seat b (with_content bytes) (with_seat b (with_pin true) v.cache.seats)) };
      group = with_block v.group b;
      members = members_with v.group b v.members hart;
    })
records_as v z mid ks ms k b h hart None at own device pin seats group members = tt
records_as v z mid ks ms k b h hart (Some bytes) at own device pin seats group members =
    let after : List SeatState = given_back b (with_seat b (with_content bytes) (with_seat b (with_pin true) v.cache.seats)) in
    let cache : z ≡ record v.cache { seats = after } =
    same_cache z (record v.cache { seats = after }) device (seats ∙ ap (λ (ss : List SeatState). given_back b (with_seat b (with_content bytes) ss)) (pin ∙ ap (λ (j : ℕ). with_seat j (with_pin true) v.cache.seats) at)) in
    let grown : ks ≡ with_block v.group b = group ∙ ap (λ (j : ℕ). with_block v.group j) at in
    let counted : ms ≡ members_with v.group b v.members hart = members ∙ ap (λ (j : ℕ). members_with v.group j v.members h) at ∙ ap (λ (x : ℕ). members_with v.group b v.members x) own in
    λ i. record v { cache = cache i; group = grown i; members = counted i }

pub returns-clause-records : goal.returns-clause-records
returns-clause-records g c =
    let l = c.self.inside in
    let b : c.block-b.result ≡ c.args.guard.value.block = c.block-b.ensures ∙ ap (λ (x : BufferState). x.block) c.value.ensures in
    let pinned : c.pin.new.self.seats ≡ with_seat c.block-b.result (with_pin true) l.cache.seats = c.pin.ensures.seats ∙ ap (λ (k : ℕ). with_seat k (with_pin true) l.cache.seats) (sym b) in
    let z = c.release_changed.new.self in
    let old : LogState g.row.D.Denot = record { cache = l.cache; sizes = l.sizes; group = l.group.items; members = l.members; phase = l.phase } in
    let new : LogState g.row.D.Denot = record old { cache = z; group = c.add.new.group.items; members = c.add.new.members } in
    subst (λ (v : LogState g.row.D.Denot). IfSome c.args.guard.value.content (λ bytes. new ≡ record v {
      cache = record v.cache { seats = given_back c.args.guard.value.block (with_seat c.args.guard.value.block (with_content bytes) (with_seat c.args.guard.value.block (with_pin true) v.cache.seats)) };
      group = with_block v.group c.args.guard.value.block;
      members = members_with v.group c.args.guard.value.block v.members c.args.txn.now;
    }))
    c.self.view_is
    (records_as old z c.pin.new.self.seats c.add.new.group.items c.add.new.members c.block-b.result c.args.guard.value.block c.hart.result c.args.txn.now c.args.guard.value.content
    b c.hart.ensures (c.release_changed.ensures.device ∙ c.pin.ensures.device) pinned c.release_changed.ensures.seats c.add.ensures.group c.add.ensures.members)
