-- `probe::ladder` meets its contract: each way out is one rung of the definition's. Assumes nothing.
use mathlib.Core.Path.{◌≡◌, ◌∙◌, ap}
use borrow.Author.Rules.{rules}
use Rattle.std.specs.Prelude.{Err}
use Rattle.answer.specs.Told.{told}
use Rattle.probe.specs.Check.{checked}
use Rattle.probe.proofs.Ladders.{inputs_pass, inputs_refused}
use Rattle.probe.proofs.ladder.Goals as goal

pub returns-in_err-good_inputs : goal.returns-in_err-good_inputs
unfolding checked
returns-in_err-good_inputs c =
    let same : c.from_residual.result ≡ Err c.in_err-good_inputs.field-0.0 = search rules in
    ap told same ∙ inputs_refused c.args.corners.now c.args.tolerance c.in_err-good_inputs.ensures _

pub returns-then-not-good_place : goal.returns-then-not-good_place
unfolding checked
returns-then-not-good_place c =
    let good = inputs_pass c.args.corners.now c.args.tolerance c.in_ok-good_inputs.ensures in
    simp (good.0, good.1, ← c.good_place.ensures, c.if-not-good_place.true)

pub returns-then-not-near : goal.returns-then-not-near
unfolding checked
returns-then-not-near c =
    let good = inputs_pass c.args.corners.now c.args.tolerance c.in_ok-good_inputs.ensures in
    simp (good.0, good.1, ← c.good_place.ensures, c.if-not-good_place.false, ← c.near.ensures, c.if-not-near.true)

pub returns : goal.returns
unfolding checked
returns c =
    let good = inputs_pass c.args.corners.now c.args.tolerance c.in_ok-good_inputs.ensures in
    simp (good.0, good.1, ← c.good_place.ensures, c.if-not-good_place.false, ← c.near.ensures, c.if-not-near.false)
