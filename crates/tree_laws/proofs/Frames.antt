-- What a tree step leaves, from what it does to the live directories.
use Rattle.image_versions.specs.declared.version.Version.{Version}
use Rattle.tree_laws.proofs.Vocabulary.{◌≡◌, ◌≢◌, ℕ, Bool, true, false, ◌||◌, ◌⊎◌, inl, inr, refl, sym, ◌∙◌, ap, subst, arith, List, [], ◌∷◌, drop, length, Option, Some, None, Slot, Node, OpenFile, Hold, Action, Open, Truncate, Read, WritePart, Find, Bump, Enter, Unbump, Unlink, Mkdir, Chdir, Dup, Close, Fstat, Inherit, StepAnswer, Opened, Bytes, Status, NewFd, Done, Failed, NoRoom, hart_count, descriptor_count, Name, Tree, put, same_name, dot, dotdot, climbs_in, live_directory, is_live, all_slots, first_slot, look, follow, settle, is_named, hold_names, fd_names, file_names, new_file, has_room, creates, any_used, first_free, cleared, refusal_with, effect_with, effect_by, refused, truncated, written, wrote, moved, file_at, held, at_hold, enter_hold, drop_hold, removed, removed_child, made, raise_hold, opened_at, opened_in, opened_new, at_dir, with_file, makes_node, StepWith, Slots, Folders, folder, folders_of, up_in, NamesOnce, IsWellFormed, names_change, IsFound, LeavesFinding, Frame, IsNobodys}
use Rattle.tree_laws.proofs.Basics.{either, same_or, eq_not, put_is, put_same, put_other, none_any, same_is, same_self, entered_other, cleared_other, cleared_gone, first_dots, first_dot, first_unused, Dots, folder_live, folder_dead, folder_some, folder_none, look_bad, look_in, look_good, first_found, follow_end, follow_step, Removes, after_removal, with_new}
use Rattle.tree_laws.proofs.Facts.{look_live}
use Rattle.tree_laws.proofs.Changed.{Change, refused_folders, step_change}
use Rattle.tree_laws.proofs.Changed.Change.{Same, Entered, Made, Cleared, Removed}

abbrev Nodes : Type 0
Nodes = ℕ → Option Node

found_in : (ns : Nodes) (s y : ℕ) (a : Name) → look ns s a ≡ Some y → (ss : Slots) × (folder (ns s) ≡ Some ss) × (first_slot ss a ≡ Some y)
found_in ns s y a h = let good = look_good ns s a y h in (all_slots (ns s), folder_live (ns s) good, sym (look_in ns s a good) ∙ h)

pub look_by : (ns : Nodes) (s : ℕ) (a : Name) (ss : Slots) (r : Option ℕ) → folder (ns s) ≡ Some ss → first_slot ss a ≡ r → look ns s a ≡ r
look_by ns s a ss r is found = let two = folder_some (ns s) ss is in look_in ns s a two.0 ∙ (ap (λ (z : Slots). first_slot z a) two.1 ∙ found)

look_off : (ns : Nodes) (s : ℕ) (a : Name) → folder (ns s) ≡ None → look ns s a ≡ None
look_off ns s a none = look_bad ns s a (folder_none (ns s) none)

look_alike : (ns ns' : Nodes) (s : ℕ) (a : Name) (o : Option Slots) → folder (ns s) ≡ o → folder (ns' s) ≡ o → look ns' s a ≡ look ns s a
look_alike ns ns' s a None p q = look_off ns' s a q ∙ sym (look_off ns s a p)
look_alike ns ns' s a (Some ss) p q = look_by ns' s a ss (first_slot ss a) q refl ∙ sym (look_by ns s a ss (first_slot ss a) p refl)

same_folder : (ns ns' : Nodes) (s : ℕ) (a : Name) → folder (ns' s) ≡ folder (ns s) → look ns' s a ≡ look ns s a
same_folder ns ns' s a e = look_alike ns ns' s a (folder (ns s)) refl e

-- what was found is still found
grows_paths : (ns ns' : Nodes) (s x : ℕ) (w : List Name) → ((s y : ℕ) (a : Name) → look ns s a ≡ Some y → look ns' s a ≡ Some y) → follow ns s w ≡ Some x → follow ns' s w ≡ Some x
grows_paths ns ns' s x [] k h = follow_end ns' s ∙ (sym (follow_end ns s) ∙ h)
grows_paths ns ns' s x (a ∷ w) k h =
    let f = first_found ns s x a w h in
    follow_step ns' s f.0 a w (k s f.0 a f.1) ∙ grows_paths ns ns' f.0 x w k f.2

-- an entered name is none that was found
entered_ne : (ss : Slots) (e a : Name) (y : ℕ) → first_slot ss e ≡ None → first_slot ss a ≡ Some y → same_name e a ≡ false
entered_ne ss e a y none found = elim (either (same_name e a)) [
  | inr z ↦ z
  | inl z ↦ absurd (let q : first_slot ss a ≡ None = subst (λ (x : Name). first_slot ss x ≡ None) (same_is e a z) none in cc (q, found))
]

entered_finds : (ns ns' : Nodes) (d n : ℕ) (e : Name) (ss : Slots) → folder (ns d) ≡ Some ss → first_slot ss e ≡ None → folder (ns' d) ≡ Some (first_free ss (record { name = e; number = n }))
    → (y : ℕ) (a : Name) → look ns d a ≡ Some y → look ns' d a ≡ Some y
entered_finds ns ns' d n e ss is none is' y a h =
    let f = found_in ns d y a h in
    let q : Some f.0 ≡ Some ss = sym f.1 ∙ is in
    let same : f.0 ≡ ss = cc in
    let here : first_slot ss a ≡ Some y = subst (λ (z : Slots). first_slot z a ≡ Some y) same f.2 in
    look_by ns' d a (first_free ss (record { name = e; number = n })) (Some y) is' (entered_other ss (record { name = e; number = n }) a (entered_ne ss e a y none here) ∙ here)

-- the removal, as walks see it
cleared_removes : (ns ns' : Nodes) (d n : ℕ) (e : Name) (ss : Slots) → d ≢ n → folder (ns d) ≡ Some ss → NamesOnce ss → first_slot ss e ≡ Some n → folder (ns' d) ≡ Some (cleared ss e) → folder (ns' n) ≡ None
    → ((s : ℕ) → s ≢ d → s ≢ n → folder (ns' s) ≡ folder (ns s)) → ((a : Name) (y : ℕ) → same_name a dotdot ≡ false → look ns n a ≡ Some y → y ≡ n) → Removes ns ns' d e n
cleared_removes ns ns' d n e ss apart is once found is' gone rest stays = record {
  good = (folder_some (ns d) ss is).0;
  found = look_by ns d e ss (Some n) is found;
  stays = stays;
  gone = folder_none (ns' n) gone;
  cleared_there = look_by ns' d e (cleared ss e) None is' (cleared_gone ss e once);
  rest = λ s a sn other. elim (same_or s d) [
    | inr q ↦ same_folder ns ns' s a (rest s q sn)
    | inl q ↦
        let ne : same_name a e ≡ false = elim (either (same_name a e)) [ inr z ↦ z | inl z ↦ absurd (other (q, z)) ] in
        subst (λ (z : ℕ). look ns' z a ≡ look ns z a) (sym q) (look_by ns' d a (cleared ss e) (first_slot ss a) is' (cleared_other ss e a ne) ∙ sym (look_by ns d a ss (first_slot ss a) is refl))
  ];
  alike = λ a h. same_is a e h;
}

-- an empty directory finds only "." beside ".."
empty_stays : (ns : Nodes) (n : ℕ) (ss : Slots) → folder (ns n) ≡ Some ss → ss ≡ Dots n (up_in ss) (drop 2 ss) → any_used (drop 2 ss) ≡ false → (a : Name) (y : ℕ) → same_name a dotdot ≡ false → look ns n a ≡ Some y → y ≡ n
empty_stays ns n ss is shape bare a y nd h =
    let f = found_in ns n y a h in
    let q : Some f.0 ≡ Some ss = sym f.1 ∙ is in
    let same : f.0 ≡ ss = cc in
    let here : first_slot (Dots n (up_in ss) (drop 2 ss)) a ≡ Some y = subst (λ (z : Slots). first_slot z a ≡ Some y) (same ∙ shape) f.2 in
    elim (either (same_name a dot)) [
      | inl z ↦ let w : first_slot (Dots n (up_in ss) (drop 2 ss)) a ≡ Some n = first_dot n (up_in ss) (drop 2 ss) a z in cc (w, here)
      | inr z ↦ absurd (let w : first_slot (Dots n (up_in ss) (drop 2 ss)) a ≡ None = first_dots n (up_in ss) (drop 2 ss) a z nd ∙ first_unused (drop 2 ss) a bare in cc (w, here))
    ]

abbrev Leads : Nodes → Nodes → Type 0
Leads ns ns' = (a x : ℕ) (w : List Name) → climbs_in w ≡ false → follow ns a w ≡ Some x → (follow ns' a w ≡ Some x) ⊎ ((live_directory (ns' x) ≡ false) × (follow ns' a w ≡ None))

removes_leads : (ns ns' : Nodes) (d n : ℕ) (e : Name) → Removes ns ns' d e n → Leads ns ns'
removes_leads ns ns' d n e r a x w c is = elim (after_removal ns ns' d n a x e w r c is) [
  | inl q ↦ inl q
  | inr q ↦ inr (subst (λ (z : ℕ). live_directory (ns' z) ≡ false) (sym q.0) r.gone, q.1)
]

at_folder : (F F' : Folders) (k : ℕ) (o : Option Slots) → F' ≡ F → F k ≡ o → F' k ≡ o
at_folder F F' k o e h = ap (λ (G : Folders). G k) e ∙ h

change_leads : (ns ns' : Nodes) (b m : Bool) (par : Option (ℕ × Name)) (new : ℕ) → Change (folders_of ns) (folders_of ns') b m par new → Leads ns ns'
change_leads ns ns' b m par new (Same is) a x w c h = inl (grows_paths ns ns' a x w (λ s y e f. same_folder ns ns' s e (ap (λ (G : Folders). G s) is) ∙ f) h)
change_leads ns ns' b m par new (Entered d n e ss bt pt is none to) a x w c h = inl (grows_paths ns ns' a x w (λ s y f q. elim (put_is (folders_of ns) d (Some (first_free ss (record { name = e; number = n }))) s) [
  | inl p ↦
      subst (λ (z : ℕ). look ns' z f ≡ Some y) (sym p.0)
      (entered_finds ns ns' d n e ss is none (ap (λ (G : Folders). G d) to ∙ put_same (folders_of ns) d (Some (first_free ss (record { name = e; number = n })))) y f (subst (λ (z : ℕ). look ns z f ≡ Some y) p.0 q))
  | inr p ↦ same_folder ns ns' s f (ap (λ (G : Folders). G s) to ∙ p.1) ∙ q
]) h)
change_leads ns ns' b m par new (Made d e ss bt mt pt is none fresh to) a x w c h =
    let F = folders_of ns in
    let F1 : Folders = put F d (Some (first_free ss (record { name = e; number = new }))) in
    let nd : d ≢ new = (λ q. absurd (cc (q, fresh, is))) in
    inl (grows_paths ns ns' a x w (λ s y f q. elim (put_is F1 new (Some (Dots new d [])) s) [
      | inl p ↦ absurd (let z : look ns s f ≡ None = look_off ns s f (subst (λ (k : ℕ). folder (ns k) ≡ None) (sym p.0) fresh) in cc (z, q))
      | inr p ↦ elim (put_is F d (Some (first_free ss (record { name = e; number = new }))) s) [
        | inl r ↦
            subst (λ (z : ℕ). look ns' z f ≡ Some y) (sym r.0)
            (entered_finds ns ns' d new e ss is none (ap (λ (G : Folders). G d) to ∙ (put_other F1 new (Some (Dots new d [])) d nd ∙ put_same F d (Some (first_free ss (record { name = e; number = new }))))) y f (subst (λ (z : ℕ). look ns z f ≡ Some y) r.0 q))
        | inr r ↦ same_folder ns ns' s f (ap (λ (G : Folders). G s) to ∙ (p.1 ∙ r.1)) ∙ q
      ]
    ]) h)
change_leads ns ns' b m par new (Cleared d n e ss bt pt is once found plain to) a x w c h =
    let F = folders_of ns in
    let dn : d ≢ n = (λ q. absurd (cc (q, plain, is))) in
    removes_leads ns ns' d n e
    (cleared_removes ns ns' d n e ss dn is once found (ap (λ (G : Folders). G d) to ∙ put_same F d (Some (cleared ss e))) (ap (λ (G : Folders). G n) to ∙ (put_other F d (Some (cleared ss e)) n (λ q. dn (sym q)) ∙ plain))
    (λ s sd sn. ap (λ (G : Folders). G s) to ∙ put_other F d (Some (cleared ss e)) s sd)
    (λ f y nd q. absurd (let z : look ns n f ≡ None = look_off ns n f plain in cc (z, q))))
    a x w c h
change_leads ns ns' b m par new (Removed d n e ss ds bt pt dn is once found dis shape bare to) a x w c h =
    let F = folders_of ns in
    let F1 : Folders = put F n None in
    removes_leads ns ns' d n e
    (cleared_removes ns ns' d n e ss dn is once found (ap (λ (G : Folders). G d) to ∙ put_same F1 d (Some (cleared ss e))) (ap (λ (G : Folders). G n) to ∙ (put_other F1 d (Some (cleared ss e)) n (λ q. dn (sym q)) ∙ put_same F n None))
    (λ s sd sn. ap (λ (G : Folders). G s) to ∙ (put_other F1 d (Some (cleared ss e)) s sd ∙ put_other F n None s sn))
    (empty_stays ns n ds dis shape bare))
    a x w c h

-- a node that is no live directory stays so
change_dead : (ns ns' : Nodes) (b m : Bool) (par : Option (ℕ × Name)) (new : ℕ) → Change (folders_of ns) (folders_of ns') b m par new → (k : ℕ) → (m ≡ true → k ≢ new) → folder (ns k) ≡ None → folder (ns' k) ≡ None
change_dead ns ns' b m par new (Same is) k ne h = ap (λ (G : Folders). G k) is ∙ h
change_dead ns ns' b m par new (Entered d n e ss bt pt is none to) k ne h = ap (λ (G : Folders). G k) to ∙ (put_other (folders_of ns) d _ k (λ q. absurd (let z : folder (ns k) ≡ Some ss = subst (λ (j : ℕ). folder (ns j) ≡ Some ss) (sym q) is in cc (z, h))) ∙ h)
change_dead ns ns' b m par new (Made d e ss bt mt pt is none fresh to) k ne h = ap (λ (G : Folders). G k) to ∙ (put_other _ new _ k (ne mt) ∙ (put_other (folders_of ns) d _ k (λ q. absurd (let z : folder (ns k) ≡ Some ss = subst (λ (j : ℕ). folder (ns j) ≡ Some ss) (sym q) is in cc (z, h))) ∙ h))
change_dead ns ns' b m par new (Cleared d n e ss bt pt is once found plain to) k ne h = ap (λ (G : Folders). G k) to ∙ (put_other (folders_of ns) d _ k (λ q. absurd (let z : folder (ns k) ≡ Some ss = subst (λ (j : ℕ). folder (ns j) ≡ Some ss) (sym q) is in cc (z, h))) ∙ h)
change_dead ns ns' b m par new (Removed d n e ss ds bt pt dn is once found dis shape bare to) k ne h =
    ap (λ (G : Folders). G k) to ∙ (put_other _ d _ k (λ q. absurd (let z : folder (ns k) ≡ Some ss = subst (λ (j : ℕ). folder (ns j) ≡ Some ss) (sym q) is in cc (z, h)))
    ∙ elim (put_is (folders_of ns) n None k) [ inl p ↦ p.1 | inr p ↦ p.1 ∙ h ])

-- what live directories find, and which go

ne_names : (d : ℕ) (e a : Name) (b : Bool) (par : Option (ℕ × Name)) → b ≡ true → par ≡ Some (d, e) → (b ≡ true → par ≢ Some (d, a)) → same_name e a ≡ false
ne_names d e a b par bt pt other = elim (either (same_name e a)) [
  | inr z ↦ z
  | inl z ↦ absurd (other bt (pt ∙ ap (λ (x : Name). Some (d, x)) (same_is e a z)))
]

flipped : (a b : Name) → same_name a b ≡ false → same_name b a ≡ false
flipped a b h = elim (either (same_name b a)) [
  | inr z ↦ z
  | inl z ↦ absurd (let q : b ≡ a = same_is b a z in let w : same_name a b ≡ true = subst (λ (x : Name). same_name x b ≡ true) q (same_self b) in cc (w, h))
]

change_finds : (ns ns' : Nodes) (b m : Bool) (par : Option (ℕ × Name)) (new : ℕ) → Change (folders_of ns) (folders_of ns') b m par new → (d : ℕ) (a : Name) → live_directory (ns d) ≡ true → live_directory (ns' d) ≡ true → (b ≡ true → par ≢ Some (d, a)) → look ns' d a ≡ look ns d a
change_finds ns ns' b m par new (Same is) k a live live' other = same_folder ns ns' k a (ap (λ (G : Folders). G k) is)
change_finds ns ns' b m par new (Entered d n e ss bt pt is none to) k a live live' other = elim (put_is (folders_of ns) d (Some (first_free ss (record { name = e; number = n }))) k) [
  | inr p ↦ same_folder ns ns' k a (ap (λ (G : Folders). G k) to ∙ p.1)
  | inl p ↦
      let other' : b ≡ true → par ≢ Some (d, a) = (λ q r. other q (subst (λ (z : ℕ). par ≡ Some (z, a)) (sym p.0) r)) in
      subst (λ (z : ℕ). look ns' z a ≡ look ns z a) (sym p.0)
      (look_by ns' d a _ (first_slot ss a) (ap (λ (G : Folders). G d) to ∙ put_same (folders_of ns) d (Some (first_free ss (record { name = e; number = n })))) (entered_other ss (record { name = e; number = n }) a (ne_names d e a b par bt pt other')) ∙ sym (look_by ns d a ss (first_slot ss a) is refl))
]
change_finds ns ns' b m par new (Made d e ss bt mt pt is none fresh to) k a live live' other =
    let F = folders_of ns in
    let s : Slot = record { name = e; number = new } in
    let F1 : Folders = put F d (Some (first_free ss s)) in
    let nd : d ≢ new = (λ q. absurd (cc (q, fresh, is))) in
    elim (put_is F1 new (Some (Dots new d [])) k) [
      | inl p ↦ absurd (let z : live_directory (ns k) ≡ false = folder_none (ns k) (subst (λ (j : ℕ). folder (ns j) ≡ None) (sym p.0) fresh) in cc (z, live))
      | inr p ↦ elim (put_is F d (Some (first_free ss s)) k) [
        | inr r ↦ same_folder ns ns' k a (ap (λ (G : Folders). G k) to ∙ (p.1 ∙ r.1))
        | inl r ↦
            let other' : b ≡ true → par ≢ Some (d, a) = (λ q w. other q (subst (λ (z : ℕ). par ≡ Some (z, a)) (sym r.0) w)) in
            subst (λ (z : ℕ). look ns' z a ≡ look ns z a) (sym r.0)
            (look_by ns' d a _ (first_slot ss a) (ap (λ (G : Folders). G d) to ∙ (put_other F1 new (Some (Dots new d [])) d nd ∙ put_same F d (Some (first_free ss s)))) (entered_other ss s a (ne_names d e a b par bt pt other')) ∙ sym (look_by ns d a ss (first_slot ss a) is refl))
      ]
    ]
change_finds ns ns' b m par new (Cleared d n e ss bt pt is once found plain to) k a live live' other = elim (put_is (folders_of ns) d (Some (cleared ss e)) k) [
  | inr p ↦ same_folder ns ns' k a (ap (λ (G : Folders). G k) to ∙ p.1)
  | inl p ↦
      let other' : b ≡ true → par ≢ Some (d, a) = (λ q r. other q (subst (λ (z : ℕ). par ≡ Some (z, a)) (sym p.0) r)) in
      subst (λ (z : ℕ). look ns' z a ≡ look ns z a) (sym p.0)
      (look_by ns' d a _ (first_slot ss a) (ap (λ (G : Folders). G d) to ∙ put_same (folders_of ns) d (Some (cleared ss e))) (cleared_other ss e a (flipped e a (ne_names d e a b par bt pt other'))) ∙ sym (look_by ns d a ss (first_slot ss a) is refl))
]
change_finds ns ns' b m par new (Removed d n e ss ds bt pt dn is once found dis shape bare to) k a live live' other =
    let F = folders_of ns in
    let F1 : Folders = put F n None in
    elim (put_is F1 d (Some (cleared ss e)) k) [
      | inr p ↦ elim (put_is F n None k) [
        | inr r ↦ same_folder ns ns' k a (ap (λ (G : Folders). G k) to ∙ (p.1 ∙ r.1))
        | inl r ↦ absurd (let z : live_directory (ns' k) ≡ false = folder_none (ns' k) (ap (λ (G : Folders). G k) to ∙ (p.1 ∙ r.1)) in cc (z, live'))
      ]
      | inl p ↦
          let other' : b ≡ true → par ≢ Some (d, a) = (λ q r. other q (subst (λ (z : ℕ). par ≡ Some (z, a)) (sym p.0) r)) in
          subst (λ (z : ℕ). look ns' z a ≡ look ns z a) (sym p.0)
          (look_by ns' d a _ (first_slot ss a) (ap (λ (G : Folders). G d) to ∙ put_same F1 d (Some (cleared ss e))) (cleared_other ss e a (flipped e a (ne_names d e a b par bt pt other'))) ∙ sym (look_by ns d a ss (first_slot ss a) is refl))
    ]

-- a directory that isn't live after the step had no entries
change_gone : (ns ns' : Nodes) (b m : Bool) (par : Option (ℕ × Name)) (new : ℕ) → Change (folders_of ns) (folders_of ns') b m par new → (k : ℕ) (ks : Slots) → folder (ns k) ≡ Some ks → folder (ns' k) ≡ None → any_used (drop 2 ks) ≡ false
change_gone ns ns' b m par new (Same is) k ks h gone = absurd (let z : folder (ns' k) ≡ Some ks = ap (λ (G : Folders). G k) is ∙ h in cc (z, gone))
change_gone ns ns' b m par new (Entered d n e ss bt pt is none to) k ks h gone = elim (put_is (folders_of ns) d (Some (first_free ss (record { name = e; number = n }))) k) [
  | inl p ↦ absurd (let z : folder (ns' k) ≡ Some (first_free ss (record { name = e; number = n })) = ap (λ (G : Folders). G k) to ∙ p.1 in cc (z, gone))
  | inr p ↦ absurd (let z : folder (ns' k) ≡ Some ks = ap (λ (G : Folders). G k) to ∙ (p.1 ∙ h) in cc (z, gone))
]
change_gone ns ns' b m par new (Made d e ss bt mt pt is none fresh to) k ks h gone =
    let F1 : Folders = put (folders_of ns) d (Some (first_free ss (record { name = e; number = new }))) in
    elim (put_is F1 new (Some (Dots new d [])) k) [
      | inl p ↦ absurd (let z : folder (ns' k) ≡ Some (Dots new d []) = ap (λ (G : Folders). G k) to ∙ p.1 in cc (z, gone))
      | inr p ↦ elim (put_is (folders_of ns) d (Some (first_free ss (record { name = e; number = new }))) k) [
        | inl r ↦ absurd (let z : folder (ns' k) ≡ Some (first_free ss (record { name = e; number = new })) = ap (λ (G : Folders). G k) to ∙ (p.1 ∙ r.1) in cc (z, gone))
        | inr r ↦ absurd (let z : folder (ns' k) ≡ Some ks = ap (λ (G : Folders). G k) to ∙ (p.1 ∙ (r.1 ∙ h)) in cc (z, gone))
      ]
    ]
change_gone ns ns' b m par new (Cleared d n e ss bt pt is once found plain to) k ks h gone = elim (put_is (folders_of ns) d (Some (cleared ss e)) k) [
  | inl p ↦ absurd (let z : folder (ns' k) ≡ Some (cleared ss e) = ap (λ (G : Folders). G k) to ∙ p.1 in cc (z, gone))
  | inr p ↦ absurd (let z : folder (ns' k) ≡ Some ks = ap (λ (G : Folders). G k) to ∙ (p.1 ∙ h) in cc (z, gone))
]
change_gone ns ns' b m par new (Removed d n e ss ds bt pt dn is once found dis shape bare to) k ks h gone = elim (put_is (put (folders_of ns) n None) d (Some (cleared ss e)) k) [
  | inl p ↦ absurd (let z : folder (ns' k) ≡ Some (cleared ss e) = ap (λ (G : Folders). G k) to ∙ p.1 in cc (z, gone))
  | inr p ↦ elim (put_is (folders_of ns) n None k) [
    | inr r ↦ absurd (let z : folder (ns' k) ≡ Some ks = ap (λ (G : Folders). G k) to ∙ (p.1 ∙ (r.1 ∙ h)) in cc (z, gone))
    | inl r ↦
        let q : Some ds ≡ Some ks = sym dis ∙ subst (λ (j : ℕ). folder (ns j) ≡ Some ks) r.0 h in
        let same : ds ≡ ks = cc in
        subst (λ (z : Slots). any_used (drop 2 z) ≡ false) same bare
  ]
]

-- if the step makes no node of this number, the number becomes no live directory
step_dead : (version : Version) (t t' : Tree) (h : ℕ) (s : Action) (res : Option ℕ) (par : Option (ℕ × Name)) (a : StepAnswer) (new id : ℕ) → IsWellFormed t → IsFound t res par → StepWith version t h s res par a new id t'
    → (n : ℕ) → (refusal_with version t h s res par ≡ None → makes_node t s par ≡ true → n ≢ new) → live_directory (t.nodes n) ≡ false → live_directory (t'.nodes n) ≡ false
step_dead version t t' h s res par a new id k found o n ne dead = folder_none (t'.nodes n) (go a o)
  where
    done : (a : StepAnswer) → StepWith version t h s res par a new id t' → refusal_with version t h s res par ≡ None → folder (t'.nodes n) ≡ None
    done a o ref = change_dead t.nodes t'.nodes (names_change s) (makes_node t s par) par new (step_change version t t' h s res par a new id k found o) n (ne ref) (folder_dead (t.nodes n) dead)

    go : (a : StepAnswer) → StepWith version t h s res par a new id t' → folder (t'.nodes n) ≡ None
    go (Failed c) o = ap (λ (z : Tree). folders_of z.nodes n) o.1 ∙ (ap (λ (G : Folders). G n) (refused_folders t h s) ∙ folder_dead (t.nodes n) dead)
    go (Opened fd j f) o = done (Opened fd j f) o o.0
    go (Bytes b) o = done (Bytes b) o o.0
    go (Status x) o = done (Status x) o o.0
    go (NewFd fd) o = done (NewFd fd) o o.0
    go Done o = done Done o o.0
    go (NoRoom f) o = done (NoRoom f) o o.0

pub step_finds : (version : Version) (t t' : Tree) (h : ℕ) (s : Action) (res : Option ℕ) (par : Option (ℕ × Name)) (a : StepAnswer) (new id : ℕ) → IsWellFormed t → IsFound t res par → StepWith version t h s res par a new id t' → LeavesFinding version t h s res par new t'
step_finds version t t' h s res par a new id k found o =
    let c = step_change version t t' h s res par a new id k found o in
    record {
      finds = λ d e live live' other. change_finds t.nodes t'.nodes (names_change s) (makes_node t s par) par new c d e live live' other;
      gone = λ d live dead. change_gone t.nodes t'.nodes (names_change s) (makes_node t s par) par new c d (all_slots (t.nodes d)) (folder_live (t.nodes d) live) (folder_dead (t'.nodes d) dead);
      dead = step_dead version t t' h s res par a new id k found o;
    }

-- Current directories of the other harts.

moved_cwd : (t : Tree) (o : Option ℕ) (by : ℕ) → (moved t o by).cwd ≡ t.cwd
moved_cwd t None by = refl
moved_cwd t (Some id) by = refl

truncated_cwd : (t : Tree) (o : Option OpenFile) → (truncated t o).cwd ≡ t.cwd
truncated_cwd t None = refl
truncated_cwd t (Some f) = refl

written_cwd : (t : Tree) (o : Option OpenFile) (b : List ℕ) → (written t o b).cwd ≡ t.cwd
written_cwd t None b = refl
written_cwd t (Some f) b = refl

wrote_cwd : (t : Tree) (h fd : ℕ) (b : List ℕ) → (wrote t h fd b).cwd ≡ t.cwd
wrote_cwd t h fd [] = refl
wrote_cwd t h fd (b ∷ bs) = moved_cwd (written t (file_at t h fd) (b ∷ bs)) (t.fds h fd) (length (b ∷ bs)) ∙ written_cwd t (file_at t h fd) (b ∷ bs)

held_cwd : (t : Tree) (h : ℕ) (r : Option ℕ) → (held t h r).cwd ≡ t.cwd
held_cwd t h None = refl
held_cwd t h (Some n) = refl

hold_cwd : (t : Tree) (o : Option Hold) (f : Node → Node) → (at_hold t o f).cwd ≡ t.cwd
hold_cwd t None f = refl
hold_cwd t (Some o) f = refl

enter_cwd : (t : Tree) (par : Option (ℕ × Name)) (o : Option Hold) → (enter_hold t par o).cwd ≡ t.cwd
enter_cwd t None o = refl
enter_cwd t (Some q) None = refl
enter_cwd t (Some q) (Some o) = refl

child_cwd : (t : Tree) (d : ℕ) (e : Name) (r : Option ℕ) → (removed_child t d e r).cwd ≡ t.cwd
child_cwd t d e None = refl
child_cwd t d e (Some n) = refl

removed_cwd : (t : Tree) (par : Option (ℕ × Name)) → (removed t par).cwd ≡ t.cwd
removed_cwd t None = refl
removed_cwd t (Some q) = child_cwd t q.0 q.1 (look t.nodes q.0 q.1)

made_cwd : (t : Tree) (par : Option (ℕ × Name)) (n : ℕ) → (made t par n).cwd ≡ t.cwd
made_cwd t None n = refl
made_cwd t (Some q) n = refl

file_cwd : (t : Tree) (h id n flags : ℕ) → (with_file t h id n flags).cwd ≡ t.cwd
file_cwd t h id n flags = elim (either (has_room (t.fds h))) [ inl y ↦ rw y refl | inr y ↦ rw y refl ]

opened_cwd : (t : Tree) (h id flags new : ℕ) (r : Option ℕ) → (opened_at t h id flags r new).cwd ≡ t.cwd
opened_cwd t h id flags new None = refl
opened_cwd t h id flags new (Some n) = file_cwd t h id n flags

opened_in_cwd : (t : Tree) (h id flags new d : ℕ) (e : Name) (r : Option ℕ) → (opened_in t h id flags d e r new).cwd ≡ t.cwd
opened_in_cwd t h id flags new d e None = file_cwd (record t { nodes = with_new t.nodes d e new new_file }) h id new flags
opened_in_cwd t h id flags new d e (Some n) = file_cwd t h id n flags

opened_new_cwd : (t : Tree) (h id flags new : ℕ) (par : Option (ℕ × Name)) → (opened_new t h id flags par new).cwd ≡ t.cwd
opened_new_cwd t h id flags new None = refl
opened_new_cwd t h id flags new (Some q) = opened_in_cwd t h id flags new q.0 q.1 (look t.nodes q.0 q.1)

dir_cwd : (t : Tree) (h g : ℕ) (r : Option ℕ) → g ≢ h → (at_dir t h r).cwd g ≡ t.cwd g
dir_cwd t h g None ne = refl
dir_cwd t h g (Some n) ne = put_other t.cwd h n g ne

at_hart : (f f' : ℕ → ℕ) (g : ℕ) → f' ≡ f → f' g ≡ f g
at_hart f f' g e = ap (λ (z : ℕ → ℕ). z g) e

effect_cwd : (version : Version) (t : Tree) (h g : ℕ) (s : Action) (res : Option ℕ) (par : Option (ℕ × Name)) (new id : ℕ) → g ≢ h → (s ≡ Inherit g → ⊥) → (effect_with version t h s res par new id).cwd g ≡ t.cwd g
unfolding effect_by
effect_cwd version t h g (Open path flags) res par new id ne other = elim (either (creates flags)) [
  | inl y ↦ rw y (at_hart t.cwd _ g (opened_new_cwd t h id flags new par))
  | inr y ↦ rw y (at_hart t.cwd _ g (opened_cwd t h id flags new res))
]
effect_cwd version t h g (Truncate fd) res par new id ne other = at_hart t.cwd _ g (truncated_cwd t (file_at t h fd))
effect_cwd version t h g (Read fd n) res par new id ne other = at_hart t.cwd _ g (moved_cwd t (t.fds h fd) _)
effect_cwd version t h g (WritePart fd b) res par new id ne other = at_hart t.cwd _ g (wrote_cwd t h fd b)
effect_cwd version t h g (Find old) res par new id ne other = at_hart t.cwd _ g (held_cwd t h res)
effect_cwd version t h g Bump res par new id ne other = at_hart t.cwd _ g (hold_cwd t (t.holds h) _)
effect_cwd version t h g (Enter name) res par new id ne other = at_hart t.cwd _ g (enter_cwd t par (t.holds h))
effect_cwd version t h g Unbump res par new id ne other = at_hart t.cwd _ g (hold_cwd t (t.holds h) _)
effect_cwd version t h g (Unlink path) res par new id ne other = at_hart t.cwd _ g (removed_cwd t par)
effect_cwd version t h g (Mkdir path) res par new id ne other = at_hart t.cwd _ g (made_cwd t par new)
effect_cwd version t h g (Chdir path) res par new id ne other = dir_cwd t h g res ne
effect_cwd version t h g (Dup fd) res par new id ne other = refl
effect_cwd version t h g (Close fd) res par new id ne other = refl
effect_cwd version t h g (Fstat fd) res par new id ne other = refl
effect_cwd version t h g (Inherit child) res par new id ne other = put_other t.cwd child (t.cwd h) g (λ q. other (ap (λ (z : ℕ). Inherit z) (sym q)))

settled_cwd : (t : Tree) → (settle t).cwd ≡ t.cwd
unfolding settle
settled_cwd t = refl

refused_cwd : (t : Tree) (h g : ℕ) (s : Action) → (refused t h s).cwd g ≡ t.cwd g
refused_cwd t h g Bump = at_hart t.cwd _ g (settled_cwd (drop_hold t h))
refused_cwd t h g (Open path flags) = refl
refused_cwd t h g (Truncate fd) = refl
refused_cwd t h g (Read fd n) = refl
refused_cwd t h g (WritePart fd b) = refl
refused_cwd t h g (Find old) = refl
refused_cwd t h g (Enter new) = refl
refused_cwd t h g Unbump = refl
refused_cwd t h g (Unlink path) = refl
refused_cwd t h g (Mkdir path) = refl
refused_cwd t h g (Chdir path) = refl
refused_cwd t h g (Dup fd) = refl
refused_cwd t h g (Close fd) = refl
refused_cwd t h g (Fstat fd) = refl
refused_cwd t h g (Inherit child) = refl

step_cwd : (version : Version) (t t' : Tree) (h g : ℕ) (s : Action) (a : StepAnswer) (new id : ℕ) (res : Option ℕ) (par : Option (ℕ × Name)) → StepWith version t h s res par a new id t' → g ≢ h → (s ≡ Inherit g → ⊥) → t'.cwd g ≡ t.cwd g
step_cwd version t t' h g s (Failed c) new id res par o ne other = ap (λ (z : Tree). z.cwd g) o.1 ∙ refused_cwd t h g s
step_cwd version t t' h g s (Opened fd j f) new id res par o ne other = ap (λ (z : Tree). z.cwd g) o.3 ∙ (at_hart _ _ g (settled_cwd _) ∙ effect_cwd version t h g s res par new id ne other)
step_cwd version t t' h g s (Bytes b) new id res par o ne other = ap (λ (z : Tree). z.cwd g) o.3 ∙ (at_hart _ _ g (settled_cwd _) ∙ effect_cwd version t h g s res par new id ne other)
step_cwd version t t' h g s (Status x) new id res par o ne other = ap (λ (z : Tree). z.cwd g) o.3 ∙ (at_hart _ _ g (settled_cwd _) ∙ effect_cwd version t h g s res par new id ne other)
step_cwd version t t' h g s (NewFd fd) new id res par o ne other = ap (λ (z : Tree). z.cwd g) o.3 ∙ (at_hart _ _ g (settled_cwd _) ∙ effect_cwd version t h g s res par new id ne other)
step_cwd version t t' h g s Done new id res par o ne other = ap (λ (z : Tree). z.cwd g) o.3 ∙ (at_hart _ _ g (settled_cwd _) ∙ effect_cwd version t h g s res par new id ne other)
step_cwd version t t' h g s (NoRoom f) new id res par o ne other = ap (λ (z : Tree). z.cwd g) o.3 ∙ (at_hart _ _ g (settled_cwd _) ∙ effect_cwd version t h g s res par new id ne other)

-- Holds of the other harts.

moved_holds : (t : Tree) (o : Option ℕ) (by : ℕ) → (moved t o by).holds ≡ t.holds
moved_holds t None by = refl
moved_holds t (Some id) by = refl

truncated_holds : (t : Tree) (o : Option OpenFile) → (truncated t o).holds ≡ t.holds
truncated_holds t None = refl
truncated_holds t (Some f) = refl

written_holds : (t : Tree) (o : Option OpenFile) (b : List ℕ) → (written t o b).holds ≡ t.holds
written_holds t None b = refl
written_holds t (Some f) b = refl

wrote_holds : (t : Tree) (h fd : ℕ) (b : List ℕ) → (wrote t h fd b).holds ≡ t.holds
wrote_holds t h fd [] = refl
wrote_holds t h fd (b ∷ bs) = moved_holds (written t (file_at t h fd) (b ∷ bs)) (t.fds h fd) (length (b ∷ bs)) ∙ written_holds t (file_at t h fd) (b ∷ bs)

held_holds : (t : Tree) (h g : ℕ) (r : Option ℕ) → g ≢ h → (held t h r).holds g ≡ t.holds g
held_holds t h g None ne = refl
held_holds t h g (Some n) ne = put_other t.holds h (Some (record { number = n; raised = false })) g ne

hold_holds : (t : Tree) (o : Option Hold) (f : Node → Node) → (at_hold t o f).holds ≡ t.holds
hold_holds t None f = refl
hold_holds t (Some o) f = refl

enter_holds : (t : Tree) (par : Option (ℕ × Name)) (o : Option Hold) → (enter_hold t par o).holds ≡ t.holds
enter_holds t None o = refl
enter_holds t (Some q) None = refl
enter_holds t (Some q) (Some o) = refl

child_holds : (t : Tree) (d : ℕ) (e : Name) (r : Option ℕ) → (removed_child t d e r).holds ≡ t.holds
child_holds t d e None = refl
child_holds t d e (Some n) = refl

removed_holds : (t : Tree) (par : Option (ℕ × Name)) → (removed t par).holds ≡ t.holds
removed_holds t None = refl
removed_holds t (Some q) = child_holds t q.0 q.1 (look t.nodes q.0 q.1)

made_holds : (t : Tree) (par : Option (ℕ × Name)) (n : ℕ) → (made t par n).holds ≡ t.holds
made_holds t None n = refl
made_holds t (Some q) n = refl

file_holds : (t : Tree) (h id n flags : ℕ) → (with_file t h id n flags).holds ≡ t.holds
file_holds t h id n flags = elim (either (has_room (t.fds h))) [ inl y ↦ rw y refl | inr y ↦ rw y refl ]

opened_holds : (t : Tree) (h id flags new : ℕ) (r : Option ℕ) → (opened_at t h id flags r new).holds ≡ t.holds
opened_holds t h id flags new None = refl
opened_holds t h id flags new (Some n) = file_holds t h id n flags

opened_in_holds : (t : Tree) (h id flags new d : ℕ) (e : Name) (r : Option ℕ) → (opened_in t h id flags d e r new).holds ≡ t.holds
opened_in_holds t h id flags new d e None = file_holds (record t { nodes = with_new t.nodes d e new new_file }) h id new flags
opened_in_holds t h id flags new d e (Some n) = file_holds t h id n flags

opened_new_holds : (t : Tree) (h id flags new : ℕ) (par : Option (ℕ × Name)) → (opened_new t h id flags par new).holds ≡ t.holds
opened_new_holds t h id flags new None = refl
opened_new_holds t h id flags new (Some q) = opened_in_holds t h id flags new q.0 q.1 (look t.nodes q.0 q.1)

dir_holds : (t : Tree) (h : ℕ) (r : Option ℕ) → (at_dir t h r).holds ≡ t.holds
dir_holds t h None = refl
dir_holds t h (Some n) = refl

of_hart : (f f' : ℕ → Option Hold) (g : ℕ) → f' ≡ f → f' g ≡ f g
of_hart f f' g e = ap (λ (z : ℕ → Option Hold). z g) e

effect_holds : (version : Version) (t : Tree) (h g : ℕ) (s : Action) (res : Option ℕ) (par : Option (ℕ × Name)) (new id : ℕ) → g ≢ h → (effect_with version t h s res par new id).holds g ≡ t.holds g
unfolding effect_by
effect_holds version t h g (Open path flags) res par new id ne = elim (either (creates flags)) [
  | inl y ↦ rw y (of_hart t.holds _ g (opened_new_holds t h id flags new par))
  | inr y ↦ rw y (of_hart t.holds _ g (opened_holds t h id flags new res))
]
effect_holds version t h g (Truncate fd) res par new id ne = of_hart t.holds _ g (truncated_holds t (file_at t h fd))
effect_holds version t h g (Read fd n) res par new id ne = of_hart t.holds _ g (moved_holds t (t.fds h fd) _)
effect_holds version t h g (WritePart fd b) res par new id ne = of_hart t.holds _ g (wrote_holds t h fd b)
effect_holds version t h g (Find old) res par new id ne = held_holds t h g res ne
effect_holds version t h g Bump res par new id ne = put_other t.holds h (raise_hold (t.holds h)) g ne
effect_holds version t h g (Enter name) res par new id ne = put_other _ h None g ne ∙ of_hart t.holds _ g (enter_holds t par (t.holds h))
effect_holds version t h g Unbump res par new id ne = put_other _ h None g ne ∙ of_hart t.holds _ g (hold_holds t (t.holds h) _)
effect_holds version t h g (Unlink path) res par new id ne = of_hart t.holds _ g (removed_holds t par)
effect_holds version t h g (Mkdir path) res par new id ne = of_hart t.holds _ g (made_holds t par new)
effect_holds version t h g (Chdir path) res par new id ne = of_hart t.holds _ g (dir_holds t h res)
effect_holds version t h g (Dup fd) res par new id ne = refl
effect_holds version t h g (Close fd) res par new id ne = refl
effect_holds version t h g (Fstat fd) res par new id ne = refl
effect_holds version t h g (Inherit child) res par new id ne = refl

settled_holds : (t : Tree) → (settle t).holds ≡ t.holds
unfolding settle
settled_holds t = refl

refused_holds : (t : Tree) (h g : ℕ) (s : Action) → g ≢ h → (refused t h s).holds g ≡ t.holds g
refused_holds t h g Bump ne = of_hart _ _ g (settled_holds (drop_hold t h)) ∙ put_other t.holds h None g ne
refused_holds t h g (Open path flags) ne = refl
refused_holds t h g (Truncate fd) ne = refl
refused_holds t h g (Read fd n) ne = refl
refused_holds t h g (WritePart fd b) ne = refl
refused_holds t h g (Find old) ne = refl
refused_holds t h g (Enter new) ne = refl
refused_holds t h g Unbump ne = refl
refused_holds t h g (Unlink path) ne = refl
refused_holds t h g (Mkdir path) ne = refl
refused_holds t h g (Chdir path) ne = refl
refused_holds t h g (Dup fd) ne = refl
refused_holds t h g (Close fd) ne = refl
refused_holds t h g (Fstat fd) ne = refl
refused_holds t h g (Inherit child) ne = refl

step_holds : (version : Version) (t t' : Tree) (h g : ℕ) (s : Action) (a : StepAnswer) (new id : ℕ) (res : Option ℕ) (par : Option (ℕ × Name)) → StepWith version t h s res par a new id t' → g ≢ h → t'.holds g ≡ t.holds g
step_holds version t t' h g s (Failed c) new id res par o ne = ap (λ (z : Tree). z.holds g) o.1 ∙ refused_holds t h g s ne
step_holds version t t' h g s (Opened fd j f) new id res par o ne = ap (λ (z : Tree). z.holds g) o.3 ∙ (of_hart _ _ g (settled_holds _) ∙ effect_holds version t h g s res par new id ne)
step_holds version t t' h g s (Bytes b) new id res par o ne = ap (λ (z : Tree). z.holds g) o.3 ∙ (of_hart _ _ g (settled_holds _) ∙ effect_holds version t h g s res par new id ne)
step_holds version t t' h g s (Status x) new id res par o ne = ap (λ (z : Tree). z.holds g) o.3 ∙ (of_hart _ _ g (settled_holds _) ∙ effect_holds version t h g s res par new id ne)
step_holds version t t' h g s (NewFd fd) new id res par o ne = ap (λ (z : Tree). z.holds g) o.3 ∙ (of_hart _ _ g (settled_holds _) ∙ effect_holds version t h g s res par new id ne)
step_holds version t t' h g s Done new id res par o ne = ap (λ (z : Tree). z.holds g) o.3 ∙ (of_hart _ _ g (settled_holds _) ∙ effect_holds version t h g s res par new id ne)
step_holds version t t' h g s (NoRoom f) new id res par o ne = ap (λ (z : Tree). z.holds g) o.3 ∙ (of_hart _ _ g (settled_holds _) ∙ effect_holds version t h g s res par new id ne)

-- What a tree step leaves to the walks of the other harts.
pub step_frame : (version : Version) (t t' : Tree) (h : ℕ) (s : Action) (res : Option ℕ) (par : Option (ℕ × Name)) (a : StepAnswer) (new id : ℕ) → IsWellFormed t → IsFound t res par → StepWith version t h s res par a new id t' → Frame version t h s res par new t'
step_frame version t t' h s res par a new id k found o = record {
  paths = change_leads t.nodes t'.nodes (names_change s) (makes_node t s par) par new (step_change version t t' h s res par a new id k found o);
  dead = step_dead version t t' h s res par a new id k found o;
  holds = λ g ne. step_holds version t t' h g s a new id res par o ne;
  cwds = λ g ne other. step_cwd version t t' h g s a new id res par o ne other;
}

-- A number that isn't in the tree is nobody's.

hold_not : (o : Option Hold) (n : ℕ) → ((q : Hold) → o ≡ Some q → q.number ≢ n) → hold_names o n ≡ false
hold_not None n h = refl
hold_not (Some q) n h = eq_not q.number n (h q refl)

file_not : (o : Option OpenFile) (n : ℕ) → ((f : OpenFile) → o ≡ Some f → f.number ≢ n) → file_names o n ≡ false
file_not None n h = refl
file_not (Some f) n h = eq_not f.number n (h f refl)

fd_not : (t : Tree) (o : Option ℕ) (n : ℕ) → ((id : ℕ) → o ≡ Some id → (f : OpenFile) → t.files id ≡ Some f → f.number ≢ n) → fd_names t o n ≡ false
fd_not t None n h = refl
fd_not t (Some id) n h = file_not (t.files id) n (h id refl)

none_of : (a b c : Bool) → a ≡ false → b ≡ false → c ≡ false → (a || (b || c)) ≡ false
none_of a b c p q r = grind arith

pub new_is_nobodys : (t : Tree) (n : ℕ) → IsWellFormed t → t.nodes n ≡ None → IsNobodys t n
unfolding is_named
new_is_nobodys t n k none = (
  λ d e h. absurd (let live : is_live (t.nodes n) ≡ true = look_live t d n e k h in let dead : is_live (t.nodes n) ≡ false = ap (λ (o : Option Node). is_live o) none in cc (live, dead)),
  none_any hart_count _ (λ h lh. none_of _ _ _
      (eq_not (t.cwd h) n (λ q. let th = k.directories h lh in gone (t.cwd h) th.node th.is q))
      (hold_not (t.holds h) n (λ q is e. let th = k.holds h q lh is in gone q.number th.node th.is e))
      (none_any descriptor_count _ (λ i li. fd_not t (t.fds h i) n (λ id is f fis e.
      let th = k.descriptors h i id lh li is in
      let z : Some th.file ≡ Some f = sym th.is ∙ fis in
      let same : th.file ≡ f = cc in
      gone f.number th.node (subst (λ (x : OpenFile). t.nodes x.number ≡ Some th.node) same th.there) e)))),
)
  where
    gone : (m : ℕ) (v : Node) → t.nodes m ≡ Some v → m ≡ n → ⊥
    gone m v is e = let z : t.nodes m ≡ None = subst (λ (x : ℕ). t.nodes x ≡ None) (sym e) none in absurd (cc (z, is))
