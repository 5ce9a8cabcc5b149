-- `cell::newton` meets its contract: a turn takes one step, and a step that is refused ends the search. Assumes nothing.
use mathlib.Core.Path.{◌∙◌, ap, sym}
use borrow.Author.Rules.{rules}
use Rattle.answer.specs.Answer.{refused}
use Rattle.cell.proofs.Steps.{at_the_start, one_step_on, only_flat, refused_early, decided}
use Rattle.cell.proofs.newton.Goals as goal

pub loop-init : goal.loop-init
loop-init g c = at_the_start (search rules)

pub returns-in-Err : goal.returns-in-Err
returns-in-Err g c =
    let found = c.in-Err.ensures in
    ap refused (sym (only_flat _ _ _ found)) ∙ refused_early c.loop.invariant g.C.Cell.holds (search rules) found

pub loop-preserved : goal.loop-preserved
loop-preserved g c = one_step_on c.loop.invariant (search rules) c.in-Ok.ensures

pub returns-then-inside : goal.returns-then-inside
returns-then-inside g c = decided c.loop.invariant g.C.Cell.holds (search rules) (search rules)

pub returns-else-inside : goal.returns-else-inside
returns-else-inside g c = decided c.loop.invariant g.C.Cell.holds (search rules) (search rules)
