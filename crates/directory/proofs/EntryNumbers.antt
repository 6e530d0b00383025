-- The number in a slot is that of its entry.
use Rattle.directory.proofs.Vocabulary.{Version, ◌≡◌, ℕ, ◌*◌, ◌&&◌, true, false, eqb, List, drop, Option, Some, None, sym, ◌∙◌, refl, nat_le, ⊎_elim, and_parts, eqb-true, list_all, position_or_len, Dirent, Free, Used, u16_at, record_at, is_name, is_zero, dirent_of, dirent_at, name_of, used_of, free_of, which_branch, number-part, Aim, Named, Unused, Entry, is_sought, number_of, dirent_len_of}
use Rattle.directory.proofs.Named.{free_not_used}

used_not_free : (v : Version) (number : ℕ) (field : List ℕ) → used_of v number field ≡ Some Free → ⊥
used_not_free v number field e =
    ⊎_elim
    (λ (t : ((is_name v (name_of field) && list_all is_zero (drop (position_or_len is_zero field) field)) ≡ true) × (Some (Used number (name_of field)) ≡ Some Free)). let q = t.1 in cc)
    (λ (f : ((is_name v (name_of field) && list_all is_zero (drop (position_or_len is_zero field) field)) ≡ false) × (None ≡ Some Free)). let q = f.1 in cc)
    (which_branch (is_name v (name_of field) && list_all is_zero (drop (position_or_len is_zero field) field)) (Some (Used number (name_of field))) None (Some Free) e)

used_has : (v : Version) (number n : ℕ) (field name : List ℕ) → used_of v number field ≡ Some (Used n name) → number ≡ n
used_has v number n field name e =
    ⊎_elim
    (λ (t : ((is_name v (name_of field) && list_all is_zero (drop (position_or_len is_zero field) field)) ≡ true) × (Some (Used number (name_of field)) ≡ Some (Used n name))). let q = t.1 in cc)
    (λ (f : ((is_name v (name_of field) && list_all is_zero (drop (position_or_len is_zero field) field)) ≡ false) × (None ≡ Some (Used n name))). let q = f.1 in cc)
    (which_branch (is_name v (name_of field) && list_all is_zero (drop (position_or_len is_zero field) field)) (Some (Used number (name_of field))) None (Some (Used n name)) e)

pub entry_number : (v : Version) (bytes : List ℕ) (entry : Dirent) → dirent_of v bytes ≡ Some entry → u16_at bytes 0 ≡ number_of (Some entry)
entry_number v bytes Free e =
    ⊎_elim
    (λ (t : (eqb (u16_at bytes 0) 0 ≡ true) × (free_of (drop 2 bytes) ≡ Some Free)). eqb-true (u16_at bytes 0) 0 t.0)
    (λ (f : (eqb (u16_at bytes 0) 0 ≡ false) × (used_of v (u16_at bytes 0) (drop 2 bytes) ≡ Some Free)). absurd (used_not_free v (u16_at bytes 0) (drop 2 bytes) f.1))
    (which_branch (eqb (u16_at bytes 0) 0) (free_of (drop 2 bytes)) (used_of v (u16_at bytes 0) (drop 2 bytes)) (Some Free) e)
entry_number v bytes (Used n name) e =
    ⊎_elim
    (λ (t : (eqb (u16_at bytes 0) 0 ≡ true) × (free_of (drop 2 bytes) ≡ Some (Used n name))). absurd (free_not_used (drop 2 bytes) n name t.1))
    (λ (f : (eqb (u16_at bytes 0) 0 ≡ false) × (used_of v (u16_at bytes 0) (drop 2 bytes) ≡ Some (Used n name))). used_has v (u16_at bytes 0) n (drop 2 bytes) name f.1)
    (which_branch (eqb (u16_at bytes 0) 0) (free_of (drop 2 bytes)) (used_of v (u16_at bytes 0) (drop 2 bytes)) (Some (Used n name)) e)

-- what is no entry isn't sought
no_entry : (aim : Aim) (s : ℕ) → is_sought aim s None ≡ true → ⊥
no_entry (Named name) s e = cc
no_entry Unused s e = cc
no_entry Entry s e = let p = and_parts (nat_le 2 s) false e in let q = p.1 in cc

pub some_number : (v : Version) (bytes : List ℕ) (aim : Aim) (s : ℕ) (o : Option Dirent) → dirent_of v bytes ≡ o → is_sought aim s o ≡ true → u16_at bytes 0 ≡ number_of o
some_number v bytes aim s None e h = absurd (no_entry aim s h)
some_number v bytes aim s (Some entry) e h = entry_number v bytes entry e

pub sought-number : (v : Version) (block : List ℕ) (p : ℕ) (aim : Aim) (s : ℕ) → is_sought aim s (dirent_at v p block) ≡ true → u16_at block (dirent_len_of v * p) ≡ number_of (dirent_at v p block)
sought-number v block p aim s h = sym (number-part v block p) ∙ some_number v (record_at (dirent_len_of v) p block) aim s (dirent_at v p block) refl h
