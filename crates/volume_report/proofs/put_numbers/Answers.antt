-- `volume_report::put_numbers` meets its contract: the first i words hold whole numbers, which are written. Assumes nothing.
use native.Mathlib.Omega.{arith}
use mathlib.Core.Path.{◌≡◌, refl, sym}
use Rattle.std.proofs.lemmas.Result.{err_from_is_err_and}
use Rattle.answer.specs.Answer.{each}
use Rattle.integers.proofs.Sizes.{within_back, back}
use Rattle.grid_number.proofs.Small.{grid_small}
use Rattle.volume_report.specs.Report.{grid_numbers}
use Rattle.volume_report.proofs.Words.{numbers_more, numbers_stop}
use Rattle.volume_report.proofs.put_numbers.Goals as goal

pub loop-i-init : goal.loop-i-init
unfolding grid_numbers each
loop-i-init c = refl

pub loop-i-preserved : goal.loop-i-preserved
loop-i-preserved c =
    let number = c.in_ok-out.field-0 in
    let answer = sym c.in_ok-out.ensures in
    let same : back number ≡ number = within_back tt (grid_small _ _ answer) in
    rw same (numbers_more c.args.words.now c.loop-i.out c.loop-i.i c.loop-i-test.true c.loop-i.invariant number (omega arith) answer)

pub returns-in_err-out : goal.returns-in_err-out
returns-in_err-out c =
    let p = err_from_is_err_and c.from_residual.result c.from_residual.ensures.1 in
    rw (p.1, p.2) (numbers_stop c.args.words.now c.loop-i.out c.loop-i.i c.loop-i-test.true c.loop-i.invariant _ (sym c.in_err-out.ensures))
