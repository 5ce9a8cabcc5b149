-- `proposals::judge` meets its contract: the number of the check's answer. An acceptance, and it alone, is told by 0. Assumes nothing.
use Prim.Native.Nat.{ℕ}
use native.Mathlib.Omega.{arith}
use mathlib.Core.Path.{◌≡◌, ◌∙◌, ap}
use Rattle.answer.specs.Answer.{number_of}
use Rattle.answer.specs.Told.{told}
use Rattle.cell.specs.Newton.{coords}
use Rattle.probe.proofs.Refusals.{accepted_by_zero}
use Rattle.proposals.specs.Judgements.{judgement}
use Rattle.proposals.proofs.judge.Goals as goal

before : {l m n : ℕ} → m ≡ n → l ≡ m → l ≡ n
before later first = first ∙ later

pub returns : goal.returns
unfolding judgement
returns c =
    let p = c.args.p in
    let check = c.check.ensures in
    record {
      value = before (ap number_of check.value) (omega arith);
      sound = λ zero. check.sound
          (accepted_by_zero c.args.corners (coords p.at) p.tolerance c.check.result check.value (omega (arith, zero)));
      complete = λ inside good finite well. before (ap (λ r. number_of (told r)) (check.complete inside good finite well)) (omega arith);
    }
