-- An accepted set-up: table and words stand for no object, and so does the empty store.
use Rattle.std.specs.Prelude.{ℕ, ◌+◌, ◌*◌, ◌≤◌, ◌≡◌, refl, List, [], Bool, true, false, replicate, ltb, eqb}
use Rattle.std.proofs.Common.{arith, ltb-false, eqb-true, sym}
use Rattle.std.proofs.lemmas.List.{length-replicate, get_or-replicate}
use Rattle.table.specs.declared.Limits.{Limits}
use Rattle.machine.specs.Basics.{pick}
use Rattle.machine.specs.Words.{bottom_of, end_of}
use Rattle.machine.specs.Entries.{no_task}
use Rattle.machine.specs.Gate.{limits_ok, sizes_ok}
use Rattle.machine.specs.Bounds.{Limited, Sized}
use Rattle.machine.specs.Setup.{fresh_task, fresh_table}
use Rattle.machine.specs.Tasks.{holding_of}
use Rattle.machine.specs.StillStore.{empty_store, owner, resting}
use Rattle.machine.proofs.Objects.Base.{off_on, sum_none}
use Rattle.machine.proofs.Objects.State.{Snapshot}
use Rattle.machine.proofs.Objects.Start.{start, start_inv}
use Rattle.machine.proofs.Agree.Mem.{P, R, S, Holds}
use Rattle.machine.proofs.Agree.Agree.{addr, Ok, content}
use Rattle.machine.proofs.Agree.Home.{home_none}
use Rattle.machine.specs.History.{no_history}
use Rattle.machine.proofs.Beside.Good.{Good}

-- what accepted limits are
tested : (b c : Bool) → pick b false c ≡ true → (b ≡ false) × (c ≡ true)
tested true c e = off_on e
tested false c e = (refl, e)

chosen : (b c : Bool) → pick b c false ≡ true → (b ≡ true) × (c ≡ true)
chosen true c e = (refl, e)
chosen false c e = off_on e

pub limits_are : (l : Limits) → limits_ok l ≡ true → Limited l × (1 ≤ l.s)
unfolding limits_ok
limits_are l e =
    let a = tested (ltb l.p 1) _ e in
    let b = tested (ltb 8 l.p) _ a.1 in
    let c = tested (ltb l.s 1) _ b.1 in
    let d = tested (ltb 255 l.s) _ c.1 in
    let f = tested (ltb l.h 64) _ d.1 in
    let h = tested (ltb 8190 l.h) _ f.1 in
    let i = tested (ltb l.k 1) _ h.1 in
    let j = tested (ltb 16 l.k) _ i.1 in (
      record {
        p_low = omega (arith, ltb-false l.p 1 a.0);
        p_high = omega (arith, ltb-false 8 l.p b.0);
        s_high = omega (arith, ltb-false 255 l.s d.0);
        h_low = omega (arith, ltb-false l.h 64 f.0);
        h_high = omega (arith, ltb-false 8190 l.h h.0);
        k_low = omega (arith, ltb-false l.k 1 i.0);
        k_high = omega (arith, ltb-false 16 l.k j.0);
      },
      omega (arith, ltb-false l.s 1 c.0),
    )

pub sizes_are : (l : Limits) (n : ℕ) → sizes_ok l n ≡ true → Sized l n × (1 ≤ l.s)
unfolding sizes_ok
sizes_are l n e =
    let a = chosen (limits_ok l) (eqb n (2 + 2 * l.h)) e in
    let b = limits_are l a.0 in
    (record { limited = b.0; size = eqb-true n (2 + 2 * l.h) a.1 }, b.1)

-- nothing was ever flipped
nothing : Snapshot
nothing = record { n = 0; fill = λ x. 0; slots = λ x j. 0; roots = [] }

-- no place means anything yet
no_words : (h : ℕ) (ws : List ℕ) → Holds (addr (λ x. 0) (λ x. 0)) (Ok (λ x. Unit {0}) (start nothing).shape (start nothing).hd (start nothing).has (h + 2) (2 + h))
    (content (start nothing).shape (λ x. 0) (λ x. 0) (start nothing).hd (start nothing).prim (start nothing).rep [] (h + 2)) [] ws
no_words h ws (P x o) k out = absurd (omega (arith, k.0))
no_words h ws (R x o) k out = absurd (omega (arith, k.0))
no_words h ws (S o) k out = absurd (omega (arith, k))

pub fresh_good : (l : Limits) (n : ℕ) → sizes_ok l n ≡ true → Good l empty_store no_history (fresh_table l) (replicate n 0)
unfolding bottom_of end_of holding_of
fresh_good l n e =
    let z = sizes_are l n e in
    record {
      kept = λ x. Unit {0};
      pa = λ x. 0;
      ra = λ x. 0;
      objects = start nothing;
      limits = refl;
      long = z.1;
      inv = start_inv nothing l.p l.s;
      agree = record {
        sized = rw (length-replicate {A = ℕ} n 0) z.0;
        living = refl;
        on = refl;
        marked = record {
          based = omega arith;
          free = omega arith;
          stack = omega arith;
          jobs = sym (sum_none l.p _ (λ i m. refl));
          copies = omega arith;
          owed = λ f. off_on f;
        };
        lay = record {
          nilp = refl;
          nilr = refl;
          inside = λ x h. absurd (omega (arith, h.0, h.1));
          where_p = λ x h. absurd (omega (arith, h.0, h.1));
          where_r = λ x h p. absurd (omega (arith, h.0, h.1));
          apart_p = λ x y h k d. absurd (omega (arith, h.0, h.1));
          apart_r = λ x y h k p q d. absurd (omega (arith, h.0, h.1));
          apart_pr = λ x y h k p. absurd (omega (arith, h.0, h.1));
        };
        mem = no_words l.h (replicate n 0);
        roots = refl;
        eight = refl;
        tasks = λ i b. get_or-replicate 8 i fresh_task no_task b;
      };
      home = λ f. home_none (λ x. Unit {0}) (λ x. 0) (start nothing).shape 2 2 refl;
      collecting = λ f. off_on f;
      awake = λ f. off_on f;
      collected = λ f. (record { once = tt; only = λ p i m. absurd m; all = λ p i m l. absurd m }, refl);
      still = record {
        owners = refl;
        tasks = λ i b. rw (get_or-replicate 8 i (owner (replicate 8 0) 0 0 resting) (owner [] 0 0 resting) b) (record { regs = refl; pending = refl; goes_to = tt; doing = refl });
        shared = refl;
        things = refl;
        each = λ x a b. absurd (omega arith);
      };
    }
