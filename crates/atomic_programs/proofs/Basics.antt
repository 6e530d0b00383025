-- The lemmas that most of this crate's other lemmas use.
pub use Rattle.atomic_programs.proofs.Beginnings.{append_nil, oldest_first_more}
pub use Rattle.atomic_programs.proofs.Erased.{erase-makes, erased}
pub use Rattle.atomic_programs.proofs.Explains.{Keeps, Some-inj, all_honest, changed_other, changed_same, changed_tells, ends_last, explained_by, explains, holds_of, inv_of, is_some-false, may_make, sound_keeps}
pub use Rattle.atomic_programs.proofs.Joined.{Acting, Here, Silent, Stable, ToAct, Wp-holding, acted, joined_places_one, may_act, s-act, s-silent, to_act}
pub use Rattle.atomic_programs.proofs.Lowered.{begun_both, is_code_below, is_code_part, lowered_lawful, operations_below, refined}
pub use Rattle.atomic_programs.proofs.Maps.{Ours, held_here, held_is, none_is, not_held, ours_none, ours_some, put_elim, put_other, put_same, same_or}
pub use Rattle.atomic_programs.proofs.Operations.{onto_rest, operations_lawful, operations_laws, own_one}
pub use Rattle.atomic_programs.proofs.Prog.{advance-bind, bind-assoc, moved_bind, plain-bind}
pub use Rattle.atomic_programs.proofs.Sound.{Wp-bind, Wp-more, Wp-others, Wp-weaker, s-op}
pub use Rattle.atomic_programs.proofs.Steps.{blocks_laws, did_buffer, did_hand, did_lock, did_part, did_read, did_same, did_txn, hand_stays, has_buffer, has_lock, has_none, has_part, not_mine, ours_is, ours_put, put_like, shows_given, shows_locked, shows_part, shows_same, shows_stored, shows_txn, slot_new, slot_other, tied_stays}
