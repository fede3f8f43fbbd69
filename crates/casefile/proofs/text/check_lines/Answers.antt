use Rattle.std.proofs.Common.{arith, rules}
use Rattle.casefile.proofs.Texts.{few_lines, one_more, first_column, refused_next}
use Rattle.casefile.proofs.text.check_lines.Goals as goal

pub count-requires : goal.count-requires
count-requires c = omega (arith, few_lines c.requires c.loop-rest.invariant)

pub loop-rest-preserved : goal.loop-rest-preserved
loop-rest-preserved c = one_more c.loop-rest.invariant c.in-Ok.ensures c.count.ensures

pub invariant_of-result : goal.invariant_of-result
invariant_of-result c = record {
  low = omega (arith, few_lines c.requires c.loop-rest.invariant, c.lines-line.ensures);
  narrow = first_column _ _ c.in-Err.ensures;
}

pub returns-in-Err : goal.returns-in-Err
returns-in-Err c = refused_next _ _ c.requires c.loop-rest.invariant (search rules) (search rules) c.in-Err.ensures
