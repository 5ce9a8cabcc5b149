-- `probe::locate` meets its contract: each way out is one rung of the definition's. Assumes nothing.
use mathlib.Core.Path.{◌≡◌, ◌∙◌, ap}
use borrow.Author.Rules.{rules}
use Rattle.std.specs.Prelude.{Err}
use Rattle.answer.specs.Told.{told}
use Rattle.probe.specs.Check.{located_checked}
use Rattle.probe.proofs.Ladders.{inputs_pass, inputs_refused}
use Rattle.probe.proofs.locate.Goals as goal

pub returns-in_err-good_inputs : goal.returns-in_err-good_inputs
unfolding located_checked
returns-in_err-good_inputs c =
    let same : c.from_residual.result ≡ Err c.in_err-good_inputs.field-0.0 = search rules in
    ap told same ∙ inputs_refused c.args.corners.now c.args.tolerance c.in_err-good_inputs.ensures _

pub returns-then-near : goal.returns-then-near
unfolding located_checked
returns-then-near c =
    let good = inputs_pass c.args.corners.now c.args.tolerance c.in_ok-good_inputs.ensures in
    simp (good.0, good.1, ← c.newton.ensures, c.in-Inside.is, ← c.near.ensures, c.if-near.true)

pub returns-else-near : goal.returns-else-near
unfolding located_checked
returns-else-near c =
    let good = inputs_pass c.args.corners.now c.args.tolerance c.in_ok-good_inputs.ensures in
    simp (good.0, good.1, ← c.newton.ensures, c.in-Inside.is, ← c.near.ensures, c.if-near.false)

pub returns-in-Flat : goal.returns-in-Flat
unfolding located_checked
returns-in-Flat c =
    let good = inputs_pass c.args.corners.now c.args.tolerance c.in_ok-good_inputs.ensures in
    simp (good.0, good.1, ← c.newton.ensures, c.in-Flat.is)

pub returns-in-Outside : goal.returns-in-Outside
unfolding located_checked
returns-in-Outside c =
    let good = inputs_pass c.args.corners.now c.args.tolerance c.in_ok-good_inputs.ensures in
    simp (good.0, good.1, ← c.newton.ensures, c.in-Outside.is)
