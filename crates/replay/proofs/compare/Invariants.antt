-- `replay::compare` is safe: each turn counts one record at most, so that the counts fit. Assumes nothing.
use Rattle.std.proofs.Common.{◌≤◌}
use Rattle.replay.proofs.compare.Given as goal

abbrev pub invariant-loop : goal.invariant-loop
invariant-loop g l = (l.records ≤ l.counter) × (l.agreed ≤ l.counter)
