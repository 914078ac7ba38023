-- What lived at the flip does not change during the collection.
use Rattle.std.specs.Prelude.{ℕ, suc, ◌≤◌, ◌<◌, ◌≡◌, refl, ◌≢◌, List, [], ◌∷◌, map}
use Rattle.std.proofs.Common.{ap, sym, ◌∙◌, inl, inr, arith}
use Rattle.machine.specs.History.{Copy, copy, InCopies, History, with_copies}
use Rattle.machine.proofs.Objects.Base.{upd, upd_other}
use Rattle.machine.proofs.Objects.State.{Shape, Snapshot}
use Rattle.machine.proofs.Objects.Inv.{Reach}
use Rattle.machine.proofs.Objects.Ops.{one_more}
use Rattle.machine.proofs.Objects.FillLaws.{reach_keep}
use Rattle.machine.proofs.Beside.Collecting.{copy_at, Lived}

-- more copies
pub lived_same : {K : ℕ → Type 0} {pa : ℕ → ℕ} {sh : Shape} {g : Snapshot} {h : History} → Lived K pa sh g h → (cs : List Copy) → Lived K pa sh g (with_copies h cs)
lived_same k cs = record { live = k.live; back = k.back; words = k.words; number = k.number }

-- a slot written or filled
pub lived_shape : {K : ℕ → Type 0} {pa : ℕ → ℕ} {sh : Shape} {g : Snapshot} {h : History} (sh' : Shape) → sh'.len ≡ sh.len → sh'.ptr ≡ sh.ptr → Lived K pa sh g h → (cs : List Copy)
    → Lived K pa sh' g (with_copies h cs)
lived_shape {sh = sh} {g = g} sh' el ep k cs = record {
  live = λ x z m r. k.live x z m (back r);
  back = λ p i. let q = k.back p i in (q.0, q.1, q.2, there q.3, q.4);
  words = λ f s. k.words f (λ x z. let q = s x z in (q.0, q.1, back q.2, rw (← (ap (λ (l : ℕ → ℕ). l x) el)) q.3));
  number = λ f s. k.number f (λ x z. let q = s x z in (q.0, q.1, back q.2, q.3));
}
  where
    back : {x : ℕ} → Reach sh' g x → Reach sh g x
    back = reach_keep (λ a j b c. rw (← (ap (λ (l : ℕ → ℕ). l a) ep)) c)

    there : {x : ℕ} → Reach sh g x → Reach sh' g x
    there = reach_keep (λ a j b c. rw (ap (λ (l : ℕ → ℕ). l a) ep) c)

-- an object made since
pub lived_makes : {K : ℕ → Type 0} {pa : ℕ → ℕ} {sh : Shape} {g : Snapshot} {h : History} → Lived K pa sh g h → (cs : List Copy) (len m v : ℕ) → g.n ≤ sh.n
    → g.fill (suc sh.n) ≡ 0 → Lived K (upd pa (suc sh.n) v) (one_more sh len m) g (with_copies h cs)
lived_makes {pa = pa} {sh = sh} {g = g} k cs len m v known none = record {
  live = λ x z l r. let q = k.live x z l (back r) in rw (old x l) q;
  back = λ p i. let q = k.back p i in (q.0, q.1, q.2, there q.3, old q.0 q.2 ∙ q.4);
  words = λ f s. k.words f (λ x z. let q = s x z in (q.0, q.1, back q.2, rw (upd_other sh.len (suc sh.n) len x (λ e. omega (arith, q.1))) at q.3));
  number = λ f s. k.number f (λ x z. let q = s x z in (q.0, q.1, back q.2, q.3));
}
  where
    old : (x : ℕ) → x ≤ g.n → upd pa (suc sh.n) v x ≡ pa x
    old x l = upd_other pa (suc sh.n) v x (λ e. omega arith)

    named : (a j : ℕ) → j < g.fill a → a ≢ suc sh.n
    named a j l e = let z : g.fill a ≡ g.fill (suc sh.n) = ap g.fill e in omega (arith, none)

    back : {x : ℕ} → Reach (one_more sh len m) g x → Reach sh g x
    back = reach_keep (λ a j b c. rw (upd_other sh.ptr (suc sh.n) m a (named a j b)) at c)

    there : {x : ℕ} → Reach sh g x → Reach (one_more sh len m) g x
    there = reach_keep (λ a j b c. rw (upd_other sh.ptr (suc sh.n) m a (named a j b)) c)

-- the copies have the same addresses, since they are of objects made before the flip
pub same_copies : (pa pa' : ℕ → ℕ) (cs : List Copy) → ((x i : ℕ) → InCopies x i cs → pa' x ≡ pa x) → map (copy_at pa) cs ≡ map (copy_at pa') cs
same_copies pa pa' [] f = refl
same_copies pa pa' (c ∷ cs) f =
    let a : copy_at pa c ≡ copy_at pa' c = ap (λ (z : ℕ). copy z c.slot) (sym (f c.object c.slot (inl (refl, refl)))) in
    let b = same_copies pa pa' cs (λ x i m. f x i (inr m)) in
    cc
