-- What the computed examples share: a heap set up, short names for what a run shows, every definition opened at once.
use Rattle.std.specs.Prelude.{ℕ, ◌+◌, ◌*◌, List, map, replicate}
use Rattle.machine.specs.Basics.{all_of, first_of}
use Rattle.machine.specs.Numbers.{Word, word_of, values_of}
use Rattle.machine.specs.Words.{object_of, look_of, copying_of, bottom_of, end_of, room_for}
use Rattle.machine.specs.Entries.{task_at, register, with_task, with_place, moved_table, with_register, with_root, Ends}
use Rattle.machine.specs.Gate.{limits_ok, sizes_ok, marks_ok, gate_of, task_gate_of, pair_gate_of}
use Rattle.machine.specs.Tasks.{holding_of, sought_of, lowest_of, seek_of, slot_taken, grey_of, closing_of, held_of}
use Rattle.machine.specs.Setup.{limits, unset, setup_of, report_of}
use Rattle.machine.specs.Complete.{move_of, clear_of, put_root_of, get_root_of, same_of, load_from, load_of}
use Rattle.machine.specs.Begin.{new_ok, begin_new_of, fill_from, begin_fill_of, begin_fill_pointer_of, store_from, begin_store_of, begin_store_pointer_of}
use Rattle.machine.specs.Look.{look_step_of, place_of, place_step_of}
use Rattle.machine.specs.Fill.{fill_write_of, fill_copy_of}
use Rattle.machine.specs.Store.{store_write_of, meet_of, store_copy_of}
use Rattle.machine.specs.Pay.{take_of, read_of, put_of, release_of}
use Rattle.machine.specs.Switch.{new_name, has_replica, new_pending, pending_has_replica, new_entry, entry_has_replicas, switch_of, switch_due, finish_of}
use Rattle.machine.specs.Flip.{pass_of, visit_of, visit_pending_of, passes_of, unasked, unasked_entry, flip_of}
use Rattle.machine.specs.New.{new_off_of, new_on_of}
use Rattle.machine.specs.Step.{wait_of, settle_of, empty_take_of, take_step_of, off_step_of, on_step_of, task_step_of, step_of}
use Rattle.machine.specs.Call.{Call}
use Rattle.machine.specs.Calls.{run, answers}

-- a heap just set up, on a buffer of the right length that was full of ones
abbrev pub started : ℕ → ℕ → ℕ → ℕ → Ends
started p s h k = setup_of unset (limits p s h k) (replicate (2 + 2 * h) 1)

-- the last answer as the script program writes it: its word, and the numbers behind it
abbrev pub said : Ends → Word × List ℕ
said e = (word_of e.out.answer, values_of e.out.answer)

-- the number that task i's register r holds
abbrev pub register_of : Ends → ℕ → ℕ → ℕ
register_of e i r = (register (task_at e.out.table i) r).0

-- a step of each of these tasks in turn
abbrev pub steps : List ℕ → List Call
steps is = map Call.Step is

-- whoever unfolds this unfolds them all; a new unfoldable definition of the machine is named here too
unfoldable pub opened : Unit {0}
unfolding
    all_of first_of object_of look_of copying_of bottom_of end_of room_for
    with_task with_place moved_table with_register with_root
    limits_ok sizes_ok marks_ok gate_of task_gate_of pair_gate_of
    holding_of sought_of lowest_of seek_of slot_taken grey_of closing_of held_of setup_of report_of
    move_of clear_of put_root_of get_root_of same_of load_from load_of
    new_ok begin_new_of fill_from begin_fill_of begin_fill_pointer_of store_from begin_store_of begin_store_pointer_of
    look_step_of place_of place_step_of fill_write_of fill_copy_of store_write_of meet_of store_copy_of take_of read_of put_of release_of
    new_name has_replica new_pending pending_has_replica new_entry entry_has_replicas switch_of switch_due finish_of
    pass_of visit_of visit_pending_of passes_of unasked unasked_entry flip_of new_off_of new_on_of
    wait_of settle_of empty_take_of take_step_of off_step_of on_step_of task_step_of step_of run answers
opened = tt
