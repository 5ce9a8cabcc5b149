-- `volume_report::determinant` meets its contract: the products and sums of three small rows are small. Assumes nothing.
use Rattle.integers.proofs.Straight.{Code, arg, op, add, mul, codes}
use Rattle.volume_report.proofs.Steps.{minor, minors, of_rows, determined}
use Rattle.volume_report.proofs.determinant.Goals as goal

-- the three minors, and each by the entry of the first column
abbrev minor_a : Code
minor_a = minor codes (arg 4) (arg 8) (arg 5) (arg 7)

abbrev minor_b : Code
minor_b = minor codes (arg 5) (arg 6) (arg 3) (arg 8)

abbrev minor_c : Code
minor_c = minor codes (arg 3) (arg 7) (arg 4) (arg 6)

abbrev first : Code
first = op mul (arg 0) minor_a

abbrev second : Code
second = op mul (arg 1) minor_b

abbrev third : Code
third = op mul (arg 2) minor_c

pub returns : goal.returns
returns c =
    determined c.args.r c.args.s c.args.t

pub overflow_sub-result : goal.overflow_sub-result
overflow_sub-result c =
    (of_rows c.args.r c.args.s c.args.t minor_a tt).fits

pub overflow_mul-result-3 : goal.overflow_mul-result-3
overflow_mul-result-3 c =
    (of_rows c.args.r c.args.s c.args.t first tt).fits

pub overflow_sub-result-2 : goal.overflow_sub-result-2
overflow_sub-result-2 c =
    (of_rows c.args.r c.args.s c.args.t minor_b tt).fits

pub overflow_mul-result-6 : goal.overflow_mul-result-6
overflow_mul-result-6 c =
    (of_rows c.args.r c.args.s c.args.t second tt).fits

pub overflow_add-result : goal.overflow_add-result
overflow_add-result c =
    (of_rows c.args.r c.args.s c.args.t (op add first second) tt).fits

pub overflow_sub-result-3 : goal.overflow_sub-result-3
overflow_sub-result-3 c =
    (of_rows c.args.r c.args.s c.args.t minor_c tt).fits

pub overflow_mul-result-9 : goal.overflow_mul-result-9
overflow_mul-result-9 c =
    (of_rows c.args.r c.args.s c.args.t third tt).fits

pub overflow_add-result-2 : goal.overflow_add-result-2
overflow_add-result-2 c =
    (of_rows c.args.r c.args.s c.args.t minors tt).fits
