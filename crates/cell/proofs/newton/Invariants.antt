use Rattle.cell.proofs.Steps.{Reached}
use Rattle.cell.specs.Newton.{step_from}
use Rattle.cell.proofs.newton.Given as goal

-- before each turn the search stands where as many steps as turns lead
abbrev pub invariant-loop : goal.invariant-loop
invariant-loop g l =
    Reached (λ q. step_from q (g.C.Cell.image_at l.cell q) (g.C.Cell.jacobian_at l.cell q)) g.C.Cell.first l.counter l.steps l.pco
