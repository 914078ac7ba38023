-- The machine's entries, values and places, in terms of those of the objects.
use Rattle.std.specs.Prelude.{ℕ, ◌<◌, ◌≡◌, refl, List, Bool, true, false, ltb, eqb}
use Rattle.std.proofs.Common.{ap, sym, ◌∙◌}
use Rattle.table.specs.declared.Limits.{Limits}
use Rattle.table.specs.declared.Marks.{Marks}
use Rattle.table.specs.declared.Operand.{Operand}
use Rattle.table.specs.declared.Primary.{Primary}
use Rattle.table.specs.declared.Replica.{Replica}
use Rattle.table.specs.declared.Operand.TheVariants.{Plain, Pointer}
use Rattle.table.specs.declared.Then.{Then}
use Rattle.table.specs.declared.Place.{Place}
use Rattle.table.specs.declared.Place.TheVariants.{Looking}
use Rattle.table.specs.declared.Table.{Table}
use Rattle.machine.specs.History.{History}
use Rattle.machine.specs.Basics.{pick}
use Rattle.table.specs.declared.Look.TheVariants.{Forwarded}
use Rattle.machine.specs.Words.{primary, replica, operand_word, copied_word, look_of}
use Rattle.machine.specs.Entries.{task_at, moved_table, entered}
use Rattle.machine.specs.Begin.{is_pointer}
use Rattle.machine.specs.Look.{look_ahead}
use Rattle.machine.specs.StillStore.{Store, owner_at, is_resting}
use Rattle.machine.proofs.Objects.State.{Hd, white, claimed, count, locked, Shape, State, IsPlaced, is_renamed}
use Rattle.machine.proofs.Objects.Inv.{Inv, SoundOperand}
use Rattle.machine.proofs.Objects.Ops.{goes}
use Rattle.machine.proofs.Agree.Encode.{at_operand, at_copied, at_then, at_place, at_task, slot_word}
use Rattle.machine.proofs.Agree.Agree.{Agree, Held, Lay}
use Rattle.machine.proofs.Agree.Names.{pa_zero}
use Rattle.machine.proofs.Agree.MidwayRead.{found_by}
use Rattle.machine.proofs.Agree.Read.{look_of_lem}
use Rattle.machine.proofs.Agree.Complete.{task_in}
use Rattle.machine.proofs.Beside.Stands.{Stands}
use Rattle.machine.proofs.Beside.Doing.{busy}
use Rattle.machine.proofs.Beside.Good.{Good}

-- the word of a value for slot j of an object with m pointer slots
pub operand_word_lem : (pa : ℕ → ℕ) (v : Operand Primary) (j m : ℕ) → is_pointer v ≡ ltb j m → operand_word (at_operand pa v) ≡ slot_word pa m j (operand_word v)
operand_word_lem pa (Plain w) j m e = rw (← e) refl
operand_word_lem pa (Pointer p) j m e = rw (← e) refl

pub copied_word_lem : (ra : ℕ → ℕ) (c : Operand Replica) (j m : ℕ) → is_renamed c ≡ ltb j m → copied_word (at_copied ra c) ≡ slot_word ra m j (copied_word c)
copied_word_lem ra (Plain w) j m e = rw (← e) refl
copied_word_lem ra (Pointer r) j m e = rw (← e) refl

-- what follows a value that is known
pub at_ahead : {K : ℕ → Type 0} {sh : Shape} {hd : ℕ → Hd} {pa ra : ℕ → ℕ} {base a end size : ℕ} → Lay K sh hd pa ra base a end size
    → (v : Operand Primary) → SoundOperand K sh v → (th : Then) (copy copy' : Operand Replica → Place) → ((c : Operand Replica) → copy' (at_copied ra c) ≡ at_place pa ra (copy c))
    → look_ahead (at_operand pa v) (at_then pa th) copy' ≡ at_place pa ra (look_ahead v th copy)
at_ahead k (Plain w) s th copy copy' f = f (Plain w)
at_ahead {pa = pa} {ra = ra} k (Pointer p) s th copy copy' f = rw (pa_zero k p.0 s.0 s.1) (on (eqb p.0 0))
  where
    nil : copy' (Pointer (replica 0)) ≡ at_place pa ra (copy (Pointer (replica 0)))
    nil = ap (λ (z : ℕ). copy' (Pointer (replica z))) (sym k.nilr) ∙ f (Pointer (replica 0))

    on : (b : Bool) → pick b (copy' (Pointer (replica 0))) (Looking (record { 0 = pa p.0 }) (at_then pa th))
        ≡ at_place pa ra (pick b (copy (Pointer (replica 0))) (Looking p th))
    on true = nil
    on false = refl

-- a look at a placed object
pub look_placed : {K : ℕ → Type 0} {p : ℕ} {pa ra : ℕ → ℕ} {o : State} {t : Table} {ws : List ℕ} → Inv K p t.limits.s o → Agree K pa ra o t ws → (x : ℕ)
    → Held K o.shape x → IsPlaced (o.hd x) → look_of ws t.limits.s (primary (pa x)) ≡ Forwarded (replica (ra x)) (o.shape.len x)
look_placed {ra = ra} {o = o} v k x h d = look_of_lem v k x h ∙ on (o.hd x) d
  where
    on : (c : Hd) → IsPlaced c → found_by (ra x) (o.shape.len x) c ≡ Forwarded (replica (ra x)) (o.shape.len x)
    on white d = absurd d
    on (claimed u) d = absurd d
    on (count c) d = refl
    on (locked i u) d = refl

-- the entry of a task, and the table when it goes on
module _ {l : Limits} {w : Store} {hy : History} {t : Table} {ws : List ℕ} (g : Good l w hy t ws) (i : ℕ) (ip : i < t.limits.p) where
  pub below : i < 8
  below = task_in g.agree i ip

  pub entry_of : task_at t i ≡ at_task g.pa g.ra (g.objects.tasks i)
  entry_of = g.agree.tasks i below

  pub moved_goes : (m : Marks) (pl : Place)
      → moved_table t i m (task_at t i).pending (at_place g.pa g.ra pl) ≡ entered t m i (at_task g.pa g.ra (goes (g.objects.tasks i) pl))
  unfolding moved_table
  moved_goes m pl = rw entry_of

  -- a task at such a place does something in the store
  pub busy_at : (pl : Place) → (g.objects.tasks i).place ≡ pl → Stands pl → is_resting (owner_at w i).doing ≡ false
  busy_at pl pe s = busy (goes (g.objects.tasks i) pl) (owner_at w i).doing pl s (rw pe at (g.still.tasks i below).doing)
