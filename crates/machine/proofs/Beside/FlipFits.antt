-- A flip with room for all that is live, its words and one word more for each, is not out of room.
use Rattle.std.specs.Prelude.{ℕ, ◌+◌, ◌≤◌, ◌<◌, ◌≡◌, ◌≢◌, ◌⊎◌, List, [], ◌∷◌, ◌++◌, false, length, Err}
use Rattle.std.proofs.Math.Path.{refl}
use Rattle.std.proofs.Common.{sym}
use Rattle.std.proofs.Math.Logic.{inl, inr}
use Rattle.table.specs.declared.Table.{Table}
use Rattle.machine.specs.Numbers.{refusal}
use Rattle.machine.specs.Flip.{passes_of}
use Rattle.machine.specs.Live.Live.{gather, live_of, size_of}
use Rattle.machine.proofs.Live.SearchLaws.{in_left, in_right, in_either, in_gather, gather_in}
use Rattle.machine.specs.Objects.Base.{In}
use Rattle.machine.proofs.Objects.State.{State, root, pending_is}
use Rattle.machine.proofs.Objects.Inv.{Inv}
use Rattle.machine.proofs.Objects.Flipped.{Restful, Comes}
use Rattle.machine.proofs.Objects.FlipInv.{comes_in}
use Rattle.machine.proofs.Agree.Agree.{bottom, Agree}
use Rattle.machine.proofs.Agree.Home.{Home}
use Rattle.machine.proofs.Agree.FlipRoom.{within_reached, flip_fits}
use Rattle.machine.proofs.Beside.LivedAt.{flip_lived}

-- ---- all that comes, as a list: nil, the pending objects, the shared roots, the registers of the tasks below p
pendings : State → ℕ → List ℕ
pendings o p = gather p (λ t. pending_is (o.tasks t).pending ∷ [])

shared : State → List ℕ
shared o = gather 8 (λ r. root o.roots r ∷ [])

registers : State → ℕ → List ℕ
registers o t = gather 8 (λ r. root (o.tasks t).regs r ∷ [])

coming : State → ℕ → List ℕ
coming o p = 0 ∷ (pendings o p ++ (shared o ++ gather p (registers o)))

-- of a list of one
sole : (x y : ℕ) → In x (y ∷ []) → y ≡ x
sole x y (inl e) = sym e
sole x y (inr i) = absurd i

module _ (o : State) (p : ℕ) where
  pendings_come : (x : ℕ) → In x (pendings o p) → Comes o x
  unfolding pendings
  pendings_come x i =
      let w = gather_in p (λ t. pending_is (o.tasks t).pending ∷ []) x i in
      inr (inl (w.0, sole x (pending_is (o.tasks w.0).pending) w.2))

  shared_come : (x : ℕ) → In x (shared o) → Comes o x
  unfolding shared
  shared_come x i =
      let w = gather_in 8 (λ r. root o.roots r ∷ []) x i in
      inr (inr (inl (w.0, sole x (root o.roots w.0) w.2)))

  register_comes : (t x : ℕ) → In x (registers o t) → Comes o x
  unfolding registers
  register_comes t x i =
      let w = gather_in 8 (λ r. root (o.tasks t).regs r ∷ []) x i in
      inr (inr (inr (t, w.0, sole x (root (o.tasks t).regs w.0) w.2)))

  registers_come : (x : ℕ) → In x (gather p (registers o)) → Comes o x
  registers_come x i = let w = gather_in p (registers o) x i in register_comes w.0 x w.2

  coming_comes : (x : ℕ) → In x (coming o p) → Comes o x
  unfolding coming
  coming_comes x (inl e) = inl e
  coming_comes x (inr i) = on (in_either x (pendings o p) (shared o ++ gather p (registers o)) i)
    where
      rest : In x (shared o) ⊎ In x (gather p (registers o)) → Comes o x
      rest (inl j) = shared_come x j
      rest (inr j) = registers_come x j

      on : In x (pendings o p) ⊎ In x (shared o ++ gather p (registers o)) → Comes o x
      on (inl j) = pendings_come x j
      on (inr j) = rest (in_either x (shared o) (gather p (registers o)) j)

  pending_coming : (t : ℕ) → t < p → In (pending_is (o.tasks t).pending) (coming o p)
  unfolding coming pendings
  pending_coming t l =
      let x = pending_is (o.tasks t).pending in
      inr (in_left x (pendings o p) (shared o ++ gather p (registers o)) (in_gather p (λ u. pending_is (o.tasks u).pending ∷ []) x t l (inl refl)))

  root_coming : (r : ℕ) → r < 8 → In (root o.roots r) (coming o p)
  unfolding coming shared
  root_coming r l =
      let x = root o.roots r in
      inr (in_right x (pendings o p) (shared o ++ gather p (registers o))
      (in_left x (shared o) (gather p (registers o)) (in_gather 8 (λ s. root o.roots s ∷ []) x r l (inl refl))))

  register_coming : (t r : ℕ) → t < p → r < 8 → In (root (o.tasks t).regs r) (coming o p)
  unfolding coming registers
  register_coming t r l m =
      let x = root (o.tasks t).regs r in
      inr (in_right x (pendings o p) (shared o ++ gather p (registers o))
      (in_right x (shared o) (gather p (registers o))
      (in_gather p (registers o) x t l (in_gather 8 (λ s. root (o.tasks t).regs s ∷ []) x r m (inl refl)))))

  nil_coming : In 0 (coming o p)
  unfolding coming
  nil_coming = inl refl

  comes_coming : {K : ℕ → Type 0} {s : ℕ} → Inv K p s o → (x : ℕ) → Comes o x → In x (coming o p)
  comes_coming v = comes_in (coming o p) v nil_coming pending_coming root_coming register_coming

-- what the flip visits is live: its words are at most those of the live objects, its number at most theirs
pub flip_fits_live : {K : ℕ → Type 0} {pa ra : ℕ → ℕ} {o : State} {t : Table} {ws : List ℕ} → Inv K t.limits.p t.limits.s o → Agree K pa ra o t ws
    → o.on ≡ false → ((u : ℕ) → Restful (o.tasks u).place) → Home K pa o.shape (bottom t) t.marks.a
    → size_of t ws + length (live_of t ws) ≤ t.limits.h → (passes_of t ws).pass ≢ Err (refusal 10)
flip_fits_live {o = o} {t = t} v k off rest home room =
    let only = coming_comes o t.limits.p in
    let all = comes_coming o t.limits.p v in
    let lived = flip_lived v k off rest only all in
    flip_fits v k off home (within_reached (coming o t.limits.p) all lived.words lived.number) room
