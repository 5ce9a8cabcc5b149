-- `kids::list` meets its contract: what is found is shown, and a refusal has room. Assumes nothing.
use Prim.Native.Nat.{ℕ}
use native.Mathlib.Omega.{arith}
use mathlib.Core.Path.{◌∙◌, ap}
use Rattle.arrayvec.specs.ArrayVec.{ArrayVec}
use Rattle.text.specs.Text.{refused_line}
use Rattle.text.proofs.Lines.{refused_most, surely}
use Rattle.kids.proofs.Report.{shown_text, shown_refusal}
use Rattle.kids.proofs.list.Goals as goal

pub returns-in-Err : goal.returns-in-Err
returns-in-Err c =
    let none = ap (λ (v : ArrayVec ℕ). v.items) c.in-Err.ensures.unchanged ∙ c.clear.ensures in
    let put = rw none at c.push_refused.ensures in
    surely c.push_refused.result (put.variant.1 (omega (arith, refused_most c.number.result))) put.ok
    ∙ ap refused_line c.number.ensures
    ∙ shown_refusal c.args.bytes.now _ c.in-Err.ensures.err

pub returns-in_default : goal.returns-in_default
returns-in_default c = shown_text c.args.bytes.now _ c.in_default.ensures.ok
