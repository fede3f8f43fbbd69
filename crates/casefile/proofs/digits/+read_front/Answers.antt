use Rattle.std.proofs.Common.{◌≡◌, ℕ, suc, ◌-◌, length, ap, arith}
use Rattle.casefile.specs.Fields.{front, mark}
use Rattle.casefile.proofs.Columns.{one_more}
use Rattle.casefile.proofs.digits.+read_front.Goals as goal

pub returns : goal.returns
returns t c =
    let text = c.args.text.now in
    let long : length text ≡ suc (length text - 1) = omega arith in
    one_more mark _ text _ _ (λ n. ap (λ (w : ℕ). front w n) long) long c.in_ok-above.ensures _ c.next.ensures
