-- `kids::push_kids` meets its contract: what the reader and the refinement answer is handed on, and reported. Assumes nothing.
use native.Mathlib.Omega.{arith}
use mathlib.Core.Path.{sym, ◌∙◌, ap}
use lib.Dec.{lit≤}
use Rattle.std.proofs.lemmas.Result.{err_from_is_err_and}
use Rattle.answer.specs.Answer.{answered}
use Rattle.hxm.proofs.Ladder.{read_found}
use Rattle.text.proofs.Lines.{surely}
use Rattle.kids.proofs.Report.{reported, refused_kids, kids_of_file, refused_file}
use Rattle.kids.proofs.push_kids.Goals as goal

pub returns-in_err-counts-clause-err : goal.returns-in_err-counts-clause-err
returns-in_err-counts-clause-err c =
    let p = err_from_is_err_and c.from_residual.result c.from_residual.ensures.1 in
    rw (p.1, p.2) (refused_file c.args.bytes.now _ c.in_err-counts.ensures.answer)

pub slice_bounds-cells-end : goal.slice_bounds-cells-end
slice_bounds-cells-end c =
    let mesh = read_found _ _ c.args.bytes.now _ _ _ _ _ (lit≤ tt) (lit≤ tt) c.in_ok-counts.ensures in
    omega (arith, mesh)

pub slice_bounds-refine-end : goal.slice_bounds-refine-end
slice_bounds-refine-end c =
    let mesh = read_found _ _ c.args.bytes.now _ _ _ _ _ (lit≤ tt) (lit≤ tt) c.in_ok-counts.ensures in
    sym mesh.long

pub returns-in_err-next-clause-err : goal.returns-in_err-next-clause-err
returns-in_err-next-clause-err c =
    let p = err_from_is_err_and c.from_residual-in_err-next.result c.from_residual-in_err-next.ensures.1 in
    let mesh = read_found _ _ c.args.bytes.now _ _ _ _ _ (lit≤ tt) (lit≤ tt) c.in_ok-counts.ensures in
    rw (p.1, p.2) (kids_of_file c.args.bytes.now _ _ _ mesh.file mesh.corners ∙ refused_kids _ _ _ c.in_err-next.ensures.answer)

pub slice_bounds-children-end : goal.slice_bounds-children-end
slice_bounds-children-end c =
    let mesh = read_found _ _ c.args.bytes.now _ _ _ _ _ (lit≤ tt) (lit≤ tt) c.in_ok-counts.ensures in
    omega (arith, mesh.file.passed.cells_few, mesh.file.cells)

pub slice_bounds-push_report-end : goal.slice_bounds-push_report-end
slice_bounds-push_report-end c =
    let mesh = read_found _ _ c.args.bytes.now _ _ _ _ _ (lit≤ tt) (lit≤ tt) c.in_ok-counts.ensures in
    let report = reported _ _ c.in_ok-counts.counts.cells _ _ _ mesh.long c.in_ok-next.ensures.answer c.in_ok-next.ensures.output in
    omega (arith, report.long)

pub push_report-requires : goal.push_report-requires
push_report-requires c =
    let mesh = read_found _ _ c.args.bytes.now _ _ _ _ _ (lit≤ tt) (lit≤ tt) c.in_ok-counts.ensures in
    let report = reported _ _ c.in_ok-counts.counts.cells _ _ _ mesh.long c.in_ok-next.ensures.answer c.in_ok-next.ensures.output in
    (omega (arith, mesh.file.passed.cells_few, mesh.file.cells), report.long)

-- there is room for the whole report
pub returns-clause-ok : goal.returns-clause-ok
returns-clause-ok c =
    let mesh = read_found _ _ c.args.bytes.now _ _ _ _ _ (lit≤ tt) (lit≤ tt) c.in_ok-counts.ensures in
    let report = reported _ _ c.in_ok-counts.counts.cells _ _ _ mesh.long c.in_ok-next.ensures.answer c.in_ok-next.ensures.output in
    let text = surely c.push_report.result (c.push_report.ensures.room c.requires) (rw c.requires at c.push_report.ensures.ok) in
    kids_of_file c.args.bytes.now _ _ _ mesh.file mesh.corners ∙ report.text ∙ ap answered (sym text)
