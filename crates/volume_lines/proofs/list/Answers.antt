-- `volume_lines::list` meets its contract: what `report` answers and leaves is printed, and there is room for it. Assumes nothing.
use native.Mathlib.Omega.{arith}
use mathlib.Core.Path.{◌∙◌, ap}
use borrow.Author.Rules.{rules}
use Rattle.text.specs.Text.{refused_line}
use Rattle.text.proofs.Lines.{refused_most, surely}
use Rattle.volume_lines.proofs.Report.{found, refusal}
use Rattle.volume_lines.proofs.list.Goals as goal

pub returns-in-Ok : goal.returns-in-Ok
returns-in-Ok c =
    let report = found c.args.bytes.now c.in-Ok.found _ _ (search rules) c.in-Ok.ensures.answer c.in-Ok.ensures.output in
    let put = rw c.clear.ensures at c.push_report.ensures in
    surely c.push_report.result (put.room (omega (arith, report.most))) put.ok ∙ report.text

pub returns-in-Err : goal.returns-in-Err
returns-in-Err c =
    let put = rw c.clear.ensures at c.push_refused.ensures in
    surely c.push_refused.result (put.variant.1 (omega (arith, refused_most c.number.result))) put.ok
    ∙ ap refused_line c.number.ensures
    ∙ refusal c.args.bytes.now _ c.in-Err.ensures.answer
