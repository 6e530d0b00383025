-- A locked world before its first event.
use Rattle.locked_world.proofs.Vocabulary.{◌≡◌, ℕ, zero, suc, List, [], Option, None, replicate, get_or, refl, sym, ◌∙◌, ap, subst, sizes_of, ComesByCalls, Fuse, IsFusedCall, program_at, Running, running_of, Event, Came, Rests, IsMounted, WorldOf, calls_of, no_history, nones, SpareFits, StoredRun, IsKept, ComesFromImage, contents, failures, device_of, disk_of, opened}

zeros : (n h : ℕ) → ◌≡◌ {A = ℕ} (get_or (replicate n 0) h 0) 0
zeros zero zero = refl
zeros zero (suc h) = refl
zeros (suc n) zero = refl
zeros (suc n) (suc h) = zeros n h

-- the world is mounted on the disk of what is stored
pub mounted_on : (s : StoredRun) (disk : Fuse) (w : WorldOf Fuse) → disk ≡ disk_of s → Rests contents failures disk w.harts → w.sizes ≡ sizes_of (contents disk) → IsMounted contents failures (disk_of s) w
mounted_on s disk w same rests sizes = record {
  rests = subst (λ (d : Fuse). Rests contents failures d w.harts) same rests;
  sizes = sizes ∙ ap (λ (d : Fuse). sizes_of (contents d)) same;
}

-- calls have led there from the disk of what is stored
pub called_from : (s : StoredRun) (disk : Fuse) (w : WorldOf Fuse) → disk ≡ disk_of s → ComesByCalls IsFusedCall disk (device_of w) → ComesFromImage s (device_of w)
called_from s disk w same calls = subst (λ (d : Fuse). ComesByCalls IsFusedCall d (device_of w)) same calls

-- nothing was started, and nothing is laid by
pub kept_opened : (image : List ℕ) (fuse : ℕ) (es : List Event) (cs : List Came) (total : ℕ) (disk : Fuse) (w : WorldOf Fuse) → es ≡ [] → cs ≡ [] → total ≡ 0 → disk ≡ disk_of (opened image fuse)
    → Rests contents failures disk w.harts → w.sizes ≡ sizes_of (contents disk) → ComesByCalls IsFusedCall disk (device_of w)
    → IsKept (record { image = image; fuse = fuse; events = es; outcomes = cs }) total w (replicate 8 0) (replicate 8 None)
kept_opened image fuse es cs total disk w p q t same rests sizes calls =
    let idle : (h : ℕ) → (calls_of contents failures w.sizes w.harts).running h ≡ None =
    λ h. ap (λ (calls : List (Option Running)). program_at running_of (get_or calls h None)) rests.idle ∙ ap (program_at running_of) (nones 8 h) in
    let all : IsKept (opened image fuse) 0 w (replicate 8 0) (replicate 8 None) =
    record {
      run = record {
        first = w;
        mounted = mounted_on (opened image fuse) disk w same rests sizes;
        history = ([], no_history contents failures w.sizes w.harts);
        sizes = refl;
      };
      calls = called_from (opened image fuse) disk w same calls;
      total_is = refl;
      eight = refl;
      given_are = λ h lt. zeros 8 h;
      spares_fit = λ h. subst (SpareFits (get_or (replicate 8 None) h None)) (sym (idle h)) tt;
    } in
    subst (λ (n : ℕ). IsKept (record { image = image; fuse = fuse; events = es; outcomes = cs }) n w (replicate 8 0) (replicate 8 None)) (sym t)
    (subst (λ (z : StoredRun). IsKept z 0 w (replicate 8 0) (replicate 8 None)) (λ i. record { image = image; fuse = fuse; events = sym p i; outcomes = sym q i }) all)
