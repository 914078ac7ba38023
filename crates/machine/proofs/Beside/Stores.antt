-- The steps of a Store behind the look at the old pointer, while collecting.
use Rattle.std.specs.Prelude.{ℕ, ◌<◌, ◌≡◌, List}
use Rattle.std.proofs.Math.Path.{refl}
use Rattle.std.proofs.Math.Bool.{true}
use Rattle.std.proofs.Common.{arith}
use Rattle.std.proofs.Math.Dec.{ltb}
use borrow.Author.Tests.{lt-leb}
use Rattle.table.specs.declared.Limits.{Limits}
use Rattle.table.specs.declared.Primary.{Primary}
use Rattle.machine.specs.Entries.{storing_on}
use Rattle.table.specs.declared.Operand.{Operand}
use Rattle.table.specs.declared.Replica.{Replica}
use Rattle.table.specs.declared.Place.TheVariants.{StoreWrite, Meet, StoreCopy, Take}
use Rattle.table.specs.declared.Table.{Table}
use Rattle.machine.specs.History.{History}
use Rattle.machine.specs.Words.{operand_word, copied_word}
use Rattle.machine.specs.Begin.{is_pointer}
use Rattle.machine.specs.Store.{store_write_of, store_copy_of}
use Rattle.machine.specs.Step.{settle, settle_of}
use Rattle.machine.specs.Tasks.{holding_of}
use Rattle.machine.specs.StillStore.{Store, storing, owner_at, happen_all}
use Rattle.machine.proofs.Objects.State.{is_renamed, OfStore, IsSeen, IsPlaced}
use Rattle.machine.proofs.Objects.Inv.{StoringOk, SoundOperand, SoundCopied}
use Rattle.machine.proofs.Objects.Ops.{goes, stores, copies}
use Rattle.machine.proofs.Objects.StoreSteps.{store_writes, store_copies}
use Rattle.machine.proofs.Agree.Encode.{at_primary, at_operand, at_copied, at_place}
use Rattle.machine.proofs.Agree.Agree.{Held}
use Rattle.machine.proofs.Agree.Names.{sound_held}
use Rattle.machine.proofs.Agree.Read.{object_of_lem}
use Rattle.machine.proofs.Agree.Slots.{stores_agree, copies_agree}
use Rattle.machine.proofs.Beside.StillLaws.{still_written}
use Rattle.machine.proofs.Beside.Doing.{still_goes}
use Rattle.machine.proofs.Objects.CountLaws.{counts_pays, counts_stores}
use Rattle.machine.proofs.Beside.Collects.{collects, not_idle}
use Rattle.machine.proofs.Beside.Good.{Good, Comes, comes_moved}
use Rattle.machine.proofs.Beside.Glue.{operand_word_lem, copied_word_lem, look_placed, below, moved_goes, busy_at}

module _ {l : Limits} {w : Store} {hy : History} {t : Table} {ws : List ℕ} (g : Good l w hy t ws) (i : ℕ) (ip : i < t.limits.p) (x : Primary) (j : ℕ)
    (se : (g.objects.tasks i).storing ≡ storing_on x j) where
  stored : StoringOk g.kept g.objects.shape (storing_on x j)
  stored = rw se at (g.inv.entries i).storing

  held : Held g.kept g.objects.shape x.0
  held = sound_held g.kept g.objects.shape x.0 stored.0 stored.1

  -- the primary slot written
  pub store_write_comes : (X : Type 0) (v : Operand Primary) → g.objects.on ≡ true → (g.objects.tasks i).place ≡ StoreWrite v
      → Comes l w hy t ws i (at_place g.pa g.ra (StoreWrite v)) X (settle t i (store_write_of true t.marks ws t.limits.s (storing_on (at_primary g.pa x) j) (at_operand g.pa v)))
  unfolding store_write_of settle_of happen_all holding_of
  store_write_comes X v on pe =
      rw (object_of_lem g.inv g.agree x.0 held, lt-leb (g.objects.shape.len x.0) j stored.2, operand_word_lem g.pa v j (g.objects.shape.ptr x.0) place.0.0)
      (comes_moved g i (below g i ip) (at_place g.pa g.ra (StoreWrite v)) X g.kept g.pa g.ra (stores g.objects x.0 j (operand_word v) i (goes (g.objects.tasks i) (Meet v))) on _ _ _
      (goes (g.objects.tasks i) (Meet v)) _ (moved_goes g i ip t.marks (Meet v)) (store_writes g.inv i ip x j se on v pe)
      (stores_agree g.inv g.agree i ip (goes (g.objects.tasks i) (Meet v)) (rw pe refl) x.0 held j (operand_word v) written)
      (rw doing (still_goes (still_written g.still x.0 j (operand_word v) stored.0 stored.1.1 filled) i (below g i ip) (Meet v) (rw doing refl))) ip tt hy.copies refl
      (collects (g.collecting on) _ _ refl refl (g.collecting on).forgiven (counts_stores g.inv on (g.collecting on).counts i ip v pe)))
    where
      place : OfStore (storing_on x j) (λ x i. (is_pointer v ≡ ltb i (g.objects.shape.ptr x)) × (g.objects.on ≡ true → i < g.objects.shape.ptr x → IsSeen (g.objects.hd (g.objects.prim x i))))
          × SoundOperand g.kept g.objects.shape v
      place = rw (pe, se) at (g.inv.places i)

      filled : j < g.objects.shape.fill x.0
      filled = omega (arith, stored.1.2, stored.2)

      written : j < g.objects.shape.wrote x.0
      written = omega (arith, filled, g.inv.shapes.filled x.0)

      doing : (owner_at w i).doing ≡ storing x.0 j (operand_word v)
      doing = rw (pe, se) at (g.still.tasks i (below g i ip)).doing

  -- the replica's slot written; then the payment
  pub store_copy_comes : (X : Type 0) (c : Operand Replica) → (g.objects.tasks i).place ≡ StoreCopy c
      → Comes l w hy t ws i (at_place g.pa g.ra (StoreCopy c)) X
      (settle t i (store_copy_of t.marks ws t.limits.s t.limits.k (storing_on (at_primary g.pa x) j) (at_copied g.ra c)))
  unfolding store_copy_of settle_of happen_all holding_of
  store_copy_comes X c pe =
      rw (
        look_placed g.inv g.agree x.0 held place.1.2,
        lt-leb (g.objects.shape.len x.0) j stored.2,
        copied_word_lem g.ra c j (g.objects.shape.ptr x.0) place.1.0,
      )
      (comes_moved g i (below g i ip) (at_place g.pa g.ra (StoreCopy c)) X g.kept g.pa g.ra
      (copies g.objects x.0 j (copied_word c) i (goes (g.objects.tasks i) (Take t.limits.k))) place.0 _ _ _ (goes (g.objects.tasks i) (Take t.limits.k)) _
      (moved_goes g i ip t.marks (Take t.limits.k)) (store_copies g.inv i ip x j se c pe t.limits.k g.agree.sized.limited.k_low)
      (copies_agree g.inv g.agree i ip (goes (g.objects.tasks i) (Take t.limits.k)) (rw pe refl) x.0 held j (copied_word c) place.1.2 stored.2)
      (still_goes g.still i (below g i ip) (Take t.limits.k) (busy_at g i ip (StoreCopy c) pe tt)) ip tt hy.copies refl
      (collects (g.collecting place.0) _ _ refl refl (g.collecting place.0).forgiven (counts_pays g.inv place.0 (g.collecting place.0).counts i ip (StoreCopy c) pe (not_idle (StoreCopy c) tt) refl)))
    where
      place : (g.objects.on ≡ true)
          × OfStore (storing_on x j) (λ x i. (is_renamed c ≡ ltb i (g.objects.shape.ptr x)) × (g.objects.prim x i ≡ copied_word c) × IsPlaced (g.objects.hd x))
          × SoundCopied g.kept g.objects.shape g.objects.hd c
      place = rw (pe, se) at (g.inv.places i)
