use Rattle.std.proofs.Common.{◌≡◌, ◌≤◌, length}
use Rattle.heaprun.proofs.lines.Run.answer_lines.Given as goal

abbrev pub invariant-loop-end : goal.invariant-loop-end
invariant-loop-end g l = record {
  left : length l.rest ≤ length l.block;
  have : l.self.have ≡ l.initial.self.have;
  all_words : 16382 ≤ length l.self.words.now;
  room_to_write : 64 ≤ length l.self.out.now;
  in_use : l.self.used ≤ length l.self.out.now;
}

abbrev pub decreases-loop-end : goal.decreases-loop-end
decreases-loop-end g l = length l.rest
